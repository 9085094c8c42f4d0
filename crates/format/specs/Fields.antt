-- Fields, and which values of them are allowed. Document 01: "At one field: 2, then 8, then level 17, then the field's value, then 7."
use Rattle.std.specs.Prelude.{ℕ, ◌+◌, ◌%◌, Bool, true, false, not, cond, ◌&&◌, ◌||◌, List, [], ◌∷◌, length, take, drop, leb, ltb, eqb}
use Rattle.numbers.specs.Bits.{bit_of}
use Rattle.numbers.specs.Field.{present, field}
use Rattle.format.specs.Parsed.{Parsed, done, require, requiring}

-- The field of n bytes at a place; 2 where it is not wholly there.
unfoldable pub field_at : List ℕ → ℕ → ℕ → Parsed ℕ
field_at s at n = require (present s at n) 2 at λ _. done (field s at n) (at + n)

-- The same bytes.
unfoldable pub same : List ℕ → List ℕ → Bool
same [] [] = true
same [] (y ∷ ys) = false
same (x ∷ xs) [] = false
same (x ∷ xs) (y ∷ ys) = eqb x y && same xs ys

-- A keyword; 3 where it is another.
unfoldable pub keyword_at : List ℕ → ℕ → List ℕ → Parsed (Unit {0})
keyword_at s at word =
    require (present s at (length word)) 2 at λ _.
    require (same (take (length word) (drop at s)) word) 3 at λ _. done tt (at + length word)

-- A count that may not be zero: 5.
unfoldable pub count_at : List ℕ → ℕ → ℕ → Parsed ℕ
count_at s at n = requiring (λ k. ltb 0 k) 5 at (field_at s at n)

-- The type of a register or a node is 1 or 2: otherwise 6.
unfoldable pub known_type : ℕ → Bool
known_type t = eqb t 1 || eqb t 2

unfoldable pub type_at : List ℕ → ℕ → Parsed ℕ
type_at s at = requiring known_type 6 at (field_at s at 1)

-- A register's address has 4 bytes at type 1 and 8 at type 2.
unfoldable pub address_size : ℕ → ℕ
address_size t = cond (eqb t 1) 4 8

-- "80 readable, 40 writable, the other six bits must be 0": otherwise 6.
unfoldable pub known_flags : ℕ → Bool
known_flags f = eqb (f % 0x40) 0

unfoldable pub flags_at : List ℕ → ℕ → Parsed ℕ
flags_at s at = requiring known_flags 6 at (field_at s at 1)

-- Bit 0 of the flags, the leftmost of 8 (source document 001, section 2).
unfoldable pub readable : ℕ → Bool
readable f = bit_of 8 f 0

-- "Attention types are 1 to 5": otherwise 6.
unfoldable pub known_attention : ℕ → Bool
known_attention a = leb 1 a && leb a 5

unfoldable pub attention_at : List ℕ → ℕ → Parsed ℕ
attention_at s at = requiring known_attention 6 at (field_at s at 1)

-- A number stands in a list.
unfoldable pub member : ℕ → List ℕ → Bool
member x [] = false
member x (y ∷ ys) = eqb x y || member x ys

-- A number that is new among those before it. Where duplicates are not looked at (`unique` is false), every number is.
unfoldable pub fresh : Bool → List ℕ → ℕ → Bool
fresh unique before x = not (unique && member x before)
