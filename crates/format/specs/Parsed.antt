-- What reading a part of a file gives, and how one reading follows another.
use Rattle.std.specs.Prelude.{ℕ, zero, suc, Bool, true, false, List, [], ◌∷◌}

-- A value with the place after it; or a refusal: its number in document 01's table, and its place.
pub data Parsed (A : Type 0) : Type 0 where
  done : A → ℕ → Parsed A
  refused : ℕ → ℕ → Parsed A

-- Go on with the value and the place after it.
unfoldable pub and_then : {A B : Type 0} → Parsed A → (A → ℕ → Parsed B) → Parsed B
and_then (done a next) f = f a next
and_then (refused n p) f = refused n p

-- Make something of the value.
unfoldable pub making : {A B : Type 0} → (A → B) → Parsed A → Parsed B
making g (done a next) = done (g a) next
making g (refused n p) = refused n p

-- Go on if the test passes; otherwise refuse with this number and place.
unfoldable pub require : {A : Type 0} → Bool → ℕ → ℕ → (Unit {0} → Parsed A) → Parsed A
require true n p k = k tt
require false n p k = refused n p

-- The value has to pass the test.
unfoldable pub requiring : {A : Type 0} → (A → Bool) → ℕ → ℕ → Parsed A → Parsed A
requiring test n p r = and_then r λ a next. require (test a) n p λ _. done a next

-- So many elements in a row. The reader of one is given those before it, the last first.
unfoldable pub row_at : {A : Type 0} → (List A → ℕ → Parsed A) → ℕ → List A → ℕ → Parsed (List A)
row_at p zero before at = done [] at
row_at p (suc n) before at = and_then (p before at) λ a next. making (λ rest. a ∷ rest) (row_at p n (a ∷ before) next)
