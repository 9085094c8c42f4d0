-- What the reader keeps of the elements before, for number 7.
use Rattle.std.specs.Prelude.{ℕ, ◌≤◌, ◌<◌, Bool, true, ◌||◌, List, ◌≡◌, get_or, ltb, eqb}
use Rattle.format.specs.Parsed.{Parsed, requiring}
use Rattle.format.specs.Fields.{field_at, fresh}

-- A table has a mark for each number that a byte holds; an unmarked number has not come yet.
unfoldable pub unmarked : List ℕ → ℕ → Bool
unmarked table x = eqb (get_or table x 0) 0

-- The number byte of an instance: 8 where `limit` instances have begun already, 7 where the number is not new.
unfoldable pub instance_number_at : List ℕ → (ℕ → Bool) → ℕ → ℕ → ℕ → Parsed ℕ
instance_number_at s new begun limit at = requiring new 7 at (requiring (λ n. ltb begun limit) 8 at (field_at s at 1))

-- An ID is new after those of a list: it is above `largest`, or none of them.
unfoldable pub new_after : ℕ → List ℕ → ℕ → Bool
new_after largest ids x = ltb largest x || fresh true ids x

-- A test tells which numbers are new after those given.
pub record Tells (new : ℕ → Bool) (numbers : List ℕ) : Type 0 where
  pub tells : (x : ℕ) → new x ≡ fresh true numbers x

-- A number above `largest` is new after those given.
pub record Largest (largest : ℕ) (numbers : List ℕ) : Type 0 where
  pub above : (x : ℕ) → largest < x → fresh true numbers x ≡ true

-- Every number from a bound on is new after those given.
pub record Below (bound : ℕ) (numbers : List ℕ) : Type 0 where
  pub above : (x : ℕ) → bound ≤ x → fresh true numbers x ≡ true
