-- A number at a place of a list of bytes. Document 01, number 2: "a field is not wholly there".
use Rattle.std.specs.Prelude.{ℕ, ◌+◌, List, Bool, cond, Option, Some, None, length, take, drop, leb}
use Rattle.numbers.specs.declared.Width.{Width}
use Rattle.numbers.specs.declared.Width.TheVariants.{Two, Three, Four, Eight}
use Rattle.numbers.specs.BigEndian.{big_endian}

-- How many bytes each width has.
abbrev pub size_of : Width → ℕ
size_of Two = 2
size_of Three = 3
size_of Four = 4
size_of Eight = 8

-- n bytes are wholly there at a place.
unfoldable pub present : List ℕ → ℕ → ℕ → Bool
present s at n = leb (at + n) (length s)

-- The number of the n bytes at a place.
unfoldable pub field : List ℕ → ℕ → ℕ → ℕ
field s at n = big_endian (take n (drop at s))

-- What a reader of a field answers, in the paper's numbers: number 0 with the value and the place after it, or number 2 at the field's first byte, and zero of everything
-- else.
pub record FieldValues : Type 0 where
  pub number : ℕ
  pub place : ℕ
  pub value : ℕ
  pub next : ℕ

abbrev pub read_with : ℕ → ℕ → FieldValues
read_with v n = record { number = 0; place = 0; value = v; next = n }

abbrev pub not_whole : ℕ → FieldValues
not_whole at = record { number = 2; place = at; value = 0; next = 0 }

-- The answer about the field at a place.
abbrev pub read_values : ℕ → Option (ℕ × ℕ) → FieldValues
read_values at (Some (v, n)) = read_with v n
read_values at None = not_whole at

-- The number of n bytes at a place with the place after them; 2 at that place where they are not wholly there.
unfoldable pub number_at : List ℕ → ℕ → ℕ → FieldValues
number_at s at n = cond (present s at n) (read_with (field s at n) (at + n)) (not_whole at)
