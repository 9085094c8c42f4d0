-- Tables of numbers.
use Rattle.std.specs.Prelude.{ℕ, suc, ◌+◌, ◌*◌, ◌%◌, List, [], ◌∷◌, set}

-- What the name of a register instance or a node instance is kept as. An ID has at most three bytes, and a number one.
unfoldable pub key_of : ℕ → ℕ → ℕ
key_of id number = id % 0x1000000 * 256 + number

-- A table after some numbers were written to it from a place on.
unfoldable pub written : List ℕ → ℕ → List ℕ → List ℕ
written table k [] = table
written table k (x ∷ xs) = written (set table k x) (suc k) xs
