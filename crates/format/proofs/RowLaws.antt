-- What holds of each element of a row, taken apart: places, the elements alone, new names, limits.
use Prim.Native.Nat.{ℕ, ◌+◌, ◌≤◌, ◌<◌}
use mathlib.Core.Bool.{true}
use mathlib.Core.List.{List, [], ◌∷◌, map}
use mathlib.Core.Path.{◌≡◌}
use native.Mathlib.Omega.{arith}
use lib.Dec.{ltb}
use lib.ListN.{length}
use borrow.Author.Tests.{ltb-true, lt-ltb}
use Rattle.format.specs.Fields.{fresh}
use Rattle.format.specs.Placing.{PlacedRow}
use Rattle.format.specs.Rules.{Every, Distinct}
use Rattle.format.proofs.EveryLaws.{New, new_distinct, distinct_new}
use Rattle.format.proofs.Spelling.{Row}

module _ {A : Type 0} (enc : A → List ℕ) where
  module _ (P Q : List A → ℕ → A → Type 0) where
    pub row-map : ((before : List A) (at : ℕ) (x : A) → P before at x → Q before at x) → (before : List A) (at : ℕ) (xs : List A)
        → Row P enc before at xs → Row Q enc before at xs
    unfolding Row
    row-map f before at [] h = tt
    row-map f before at (x ∷ xs) h = (f before at x h.0, row-map f (x ∷ before) (at + length (enc x)) xs h.1)

    pub row_both : (before : List A) (at : ℕ) (xs : List A) → Row P enc before at xs → Row Q enc before at xs
        → Row (λ b a x. P b a x × Q b a x) enc before at xs
    unfolding Row
    row_both before at [] h k = tt
    row_both before at (x ∷ xs) h k = ((h.0, k.0), row_both (x ∷ before) (at + length (enc x)) xs h.1 k.1)

  pub placed_out : (placed : ℕ → A → Type 0) (before : List A) (at : ℕ) (xs : List A) → Row (λ b a x. placed a x) enc before at xs
      → PlacedRow placed enc at xs
  unfolding Row PlacedRow
  placed_out placed before at [] h = tt
  placed_out placed before at (x ∷ xs) h = (h.0, placed_out placed (x ∷ before) (at + length (enc x)) xs h.1)

  pub placed_in : (placed : ℕ → A → Type 0) (before : List A) (at : ℕ) (xs : List A) → PlacedRow placed enc at xs
      → Row (λ b a x. placed a x) enc before at xs
  unfolding Row PlacedRow
  placed_in placed before at [] h = tt
  placed_in placed before at (x ∷ xs) h = (h.0, placed_in placed (x ∷ before) (at + length (enc x)) xs h.1)

  pub each_out : (P : A → Type 0) (before : List A) (at : ℕ) (xs : List A) → Row (λ b a x. P x) enc before at xs → Every P xs
  unfolding Row Every
  each_out P before at [] h = tt
  each_out P before at (x ∷ xs) h = (h.0, each_out P (x ∷ before) (at + length (enc x)) xs h.1)

  pub each_in : (P : A → Type 0) (before : List A) (at : ℕ) (xs : List A) → Every P xs → Row (λ b a x. P x) enc before at xs
  unfolding Row Every
  each_in P before at [] h = tt
  each_in P before at (x ∷ xs) h = (h.0, each_in P (x ∷ before) (at + length (enc x)) xs h.1)

  module _ (key : A → ℕ) where
    new_out : (before : List A) (at : ℕ) (xs : List A) → Row (λ b a x. fresh true (map key b) (key x) ≡ true) enc before at xs
        → New (map key before) (map key xs)
    unfolding Row New
    new_out before at [] h = tt
    new_out before at (x ∷ xs) h = (h.0, new_out (x ∷ before) (at + length (enc x)) xs h.1)

    new_in : (before : List A) (at : ℕ) (xs : List A) → New (map key before) (map key xs)
        → Row (λ b a x. fresh true (map key b) (key x) ≡ true) enc before at xs
    unfolding Row New
    new_in before at [] h = tt
    new_in before at (x ∷ xs) h = (h.0, new_in (x ∷ before) (at + length (enc x)) xs h.1)

    pub unique_out : (at : ℕ) (xs : List A) → Row (λ b a x. fresh true (map key b) (key x) ≡ true) enc [] at xs → Distinct (map key xs)
    unique_out at xs h = new_distinct (map key xs) (new_out [] at xs h)

    pub unique_in : (at : ℕ) (xs : List A) → Distinct (map key xs) → Row (λ b a x. fresh true (map key b) (key x) ≡ true) enc [] at xs
    unique_in at xs d = new_in [] at xs (distinct_new (map key xs) d)

  -- An element that is placed, good by itself, and new by its key among those before it.
  module _ (Place : ℕ → A → Type 0) (Alone : A → Type 0) (key : A → ℕ) where
    pub record Among (before : List A) (at : ℕ) (x : A) : Type 0 where
      pub placed : Place at x
      pub alone : Alone x
      pub new : fresh true (map key before) (key x) ≡ true

    pub among_out : (at : ℕ) (xs : List A) → Row Among enc [] at xs → PlacedRow Place enc at xs × Every Alone xs × Distinct (map key xs)
    among_out at xs r = (
      placed_out Place [] at xs (row-map Among _ (λ b a x h. h.placed) [] at xs r),
      each_out Alone [] at xs (row-map Among _ (λ b a x h. h.alone) [] at xs r),
      unique_out key at xs (row-map Among _ (λ b a x h. h.new) [] at xs r),
    )

    pub among_in : (at : ℕ) (xs : List A) → PlacedRow Place enc at xs → Every Alone xs → Distinct (map key xs) → Row Among enc [] at xs
    among_in at xs p e u =
        row-map _ Among (λ b a x h. record { placed = h.0; alone = h.1.0; new = h.1.1 }) [] at xs
        (row_both _ _ [] at xs (placed_in Place [] at xs p) (row_both _ _ [] at xs (each_in Alone [] at xs e) (unique_in key at xs u)))

  -- Each element has room below the limit exactly when all have.
  pub limit_out : (total limit : ℕ) (before : List A) (at : ℕ) (xs : List A) → 0 < length xs
      → Row (λ b a x. ltb (total + length b) limit ≡ true) enc before at xs → total + length before + length xs ≤ limit
  unfolding Row
  limit_out total limit before at [] z h = absurd (omega arith)
  limit_out total limit before at (x ∷ []) z h = omega (arith, ltb-true (total + length before) limit h.0)
  limit_out total limit before at (x ∷ y ∷ ys) z h =
      omega (arith, limit_out total limit (x ∷ before) (at + length (enc x)) (y ∷ ys) (omega arith) h.1)

  pub limit_in : (total limit : ℕ) (before : List A) (at : ℕ) (xs : List A) → total + length before + length xs ≤ limit
      → Row (λ b a x. ltb (total + length b) limit ≡ true) enc before at xs
  unfolding Row
  limit_in total limit before at [] h = tt
  limit_in total limit before at (x ∷ xs) h =
      (lt-ltb (total + length before) limit (omega arith), limit_in total limit (x ∷ before) (at + length (enc x)) xs (omega arith))

  -- The same for a number of instances that each element adds.
  module _ (size : A → ℕ) (sum : List A → ℕ) (sum-none : sum [] ≡ 0) (sum_more : (x : A) (xs : List A) → sum (x ∷ xs) ≡ size x + sum xs) (limit : ℕ) where
    pub total_out : (before : List A) (at : ℕ) (xs : List A) → 0 < length xs → Row (λ b a x. sum b + size x ≤ limit) enc before at xs
        → sum before + sum xs ≤ limit
    unfolding Row
    total_out before at [] z h = absurd (omega arith)
    total_out before at (x ∷ []) z h = omega (arith, h.0, sum_more x [], sum-none)
    total_out before at (x ∷ y ∷ ys) z h =
        omega (arith, total_out (x ∷ before) (at + length (enc x)) (y ∷ ys) (omega arith) h.1, sum_more x before, sum_more x (y ∷ ys))

    pub total_in : (before : List A) (at : ℕ) (xs : List A) → sum before + sum xs ≤ limit → Row (λ b a x. sum b + size x ≤ limit) enc before at xs
    unfolding Row
    total_in before at [] h = tt
    total_in before at (x ∷ xs) h =
        (omega (arith, sum_more x xs), total_in (x ∷ before) (at + length (enc x)) xs (omega (arith, sum_more x before, sum_more x xs)))
