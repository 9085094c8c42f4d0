-- Register readings (document 01, "Isolation, step by step"): words, and a read byte for each, in the register instances' file order.
use Rattle.std.specs.Prelude.{ℕ, Bool, not, ◌&&◌, List, ltb, eqb, length, get_or}
use Rattle.format.specs.Lookup.{some, register_entries, register_position}
use Rattle.format.specs.References.{Fault, Named, unless}
use Rattle.format.specs.Tree.{Chip}

-- "Readings fit when both lists have one entry for each register instance and every read byte is 0 or 1."
unfoldable pub readings_fit : Chip → List ℕ → List ℕ → Bool
readings_fit c words read =
    eqb (length words) (length (register_entries c)) && (eqb (length read) (length (register_entries c)) && not (some (ltb 1) read))

-- "A register has a value when its read byte is 1."
unfoldable pub has_value : Chip → List ℕ → ℕ → ℕ → Bool
has_value c read id number = eqb (get_or read (register_position c id number) 0) 1

-- The word of a register instance.
unfoldable pub word_for : Chip → List ℕ → ℕ → ℕ → ℕ
word_for c words id number = get_or words (register_position c id number) 0

-- A register that a rule names without a value: 18 at the type byte of the expression.
unfoldable pub unread_faults : Chip → List ℕ → Named → List Fault
unread_faults c read n = unless (has_value c read n.id n.number) 18 n.place
