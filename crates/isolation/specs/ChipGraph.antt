-- The graph of a chip's node instances for a wanted attention type and a set of readings.
use Rattle.std.specs.Prelude.{ℕ, Bool, true, false, ◌&&◌, List, [], ◌∷◌, length}
use Rattle.std.proofs.Math.Option.{Option, none}
use Rattle.numbers.specs.Bits.{bit_of}
use Rattle.graph.specs.Chains.{Graph}
use Rattle.format.specs.Finding.{rule_for, child_for, child_position}
use Rattle.limits.specs.Limits.{levels}
use Rattle.format.specs.Lookup.{some, at, gathered, NodeEntry, node_entries}
use Rattle.format.specs.Meaning.{value_within}
use Rattle.format.specs.References.{Fault, named_by}
use Rattle.format.specs.Tree.{Rule, Chip}
use Rattle.isolation.specs.Readings.{word_for, unread_faults}

-- What a node instance's wanted rule names without a value, in byte order.
unfoldable pub rule_unread : Chip → List ℕ → Rule → List Fault
rule_unread c read r = gathered (unread_faults c read) (named_by r.expression)

-- The list is empty.
abbrev pub is_none : {A : Type 0} → List A → Bool
is_none [] = true
is_none (x ∷ xs) = false

-- "A node instance's active bits are the ones of its rule for the wanted attention type. It has none if it has no such rule, or if that rule names an unread register."
unfoldable pub rule_active : Chip → List ℕ → List ℕ → ℕ → Rule → Bool
rule_active c words read bit r = is_none (rule_unread c read r) && bit_of 64 (value_within levels 64 (word_for c words) r.expression) bit

unfoldable pub entry_active : Chip → ℕ → List ℕ → List ℕ → ℕ → NodeEntry → Bool
entry_active c attention words read bit e = some (rule_active c words read bit) (rule_for attention e.instance)

-- The node instance that the child entry of a bit names.
unfoldable pub entry_child : Chip → ℕ → List NodeEntry → Option ℕ
entry_child c bit [] = none
entry_child c bit (e ∷ es) = child_position c (child_for bit e.instance)

unfoldable pub chip_graph : Chip → ℕ → List ℕ → List ℕ → Graph
chip_graph c attention words read =
    record {
      size = length (node_entries c);
      active = λ i b. some (entry_active c attention words read b) (at i (node_entries c));
      child = λ i b. entry_child c b (at i (node_entries c));
    }
