-- What stands in a column, which has a number for each element of a list.
use Prim.Native.Nat.{ℕ, zero, suc, ◌+◌, ◌*◌, ◌≤◌, ◌<◌}
use mathlib.Core.List.{List, [], ◌∷◌, ◌++◌, map, append_assoc}
use mathlib.Core.Path.{◌≡◌, refl, sym, ◌∙◌, ap}
use native.Mathlib.Numerals.{add-one}
use native.Mathlib.Omega.{arith}
use lib.ListN.{length, get_or, drop, drop_of_length-le, length-append, get_or-append}
use lib.Seq.{drop-cons, get_or-append-add}
use Rattle.format.specs.Lookup.{at, gathered}
use Rattle.format.proofs.PositionsLaws.{at_empty, at_first, at_next}

-- What stands at a position of a column.
pub column_at : {E : Type 0} (f : E → ℕ) (es : List E) (i : ℕ) {e : E} → at i es ≡ e ∷ [] → get_or (map f es) i 0 ≡ f e
unfolding at
column_at f [] zero q = let z : ◌≡◌ {A = ℕ} 0 1 = cc in absurd (omega arith)
column_at f [] (suc i) q = let z : ◌≡◌ {A = ℕ} 0 1 = cc in absurd (omega arith)
column_at f (x ∷ es) zero {e} q = let w : x ≡ e = cc in ap f w
column_at f (x ∷ es) (suc i) q = column_at f es i q

-- What stands at a position, and what follows it.
pub drop_first : (xs : List ℕ) (i : ℕ) {x : ℕ} {rest : List ℕ} → drop i xs ≡ x ∷ rest → (get_or xs i 0 ≡ x) × (drop (i + 1) xs ≡ rest)
drop_first [] zero e = let z : ◌≡◌ {A = ℕ} 0 1 = cc in absurd (omega arith)
drop_first [] (suc i) e = let z : ◌≡◌ {A = ℕ} 0 1 = cc in absurd (omega arith)
drop_first (y ∷ xs) zero {x} {rest} e = (let p : y ≡ x = cc in p, let q : xs ≡ rest = cc in q)
drop_first (y ∷ xs) (suc i) e = let r = drop_first xs i e in (r.0, rw add-one (sym (ap (λ k. drop k xs) (add-one i)) ∙ r.1))

-- A column from a position on has a first element where the position is inside it.
pub column_first : {E : Type 0} (f : E → ℕ) (xs : List ℕ) (i : ℕ) (ys : List E) → i < length xs → drop i xs ≡ map f ys
    → (y : E) × (zs : List E) × (y ∷ zs ≡ ys) × (get_or xs i 0 ≡ f y) × (drop (i + 1) xs ≡ map f zs)
column_first f xs i [] h e = let z : get_or xs i 0 ∷ drop (suc i) xs ≡ [] = sym (drop-cons xs i 0 h) ∙ e in let w : ◌≡◌ {A = ℕ} 0 1 = cc in absurd (omega arith)
column_first f xs i (y ∷ ys) h e = let r = drop_first xs i e in (y, ys, refl, r.0, r.1)

pub column_none : {E : Type 0} (f : E → ℕ) (xs : List ℕ) (i : ℕ) (ys : List E) → length xs ≤ i → drop i xs ≡ map f ys → ys ≡ []
column_none f xs i [] h e = refl
column_none f xs i (y ∷ ys) h e = let z : [] ≡ f y ∷ map f ys = sym (drop_of_length-le xs h) ∙ e in let w : ◌≡◌ {A = ℕ} 0 1 = cc in absurd (omega arith)

-- Rows of 64 numbers, one after another.
module _ {A : Type 0} (f : A → List ℕ) (rows : (x : A) → length (f x) ≡ 64) (rest : List ℕ) where
  pub rows_place : (xs : List A) (i : ℕ) {x : A} → at i xs ≡ x ∷ [] → (b : ℕ) → b < 64
      → (get_or (gathered f xs ++ rest) (i * 64 + b) 0 ≡ get_or (f x) b 0) × (i * 64 + b < length (gathered f xs ++ rest))
  unfolding gathered
  rows_place [] i {x} e b h = let y : [] ≡ x ∷ [] = sym (at_empty i) ∙ e in let z : ◌≡◌ {A = ℕ} 0 1 = cc in absurd (omega arith)
  rows_place (y ∷ xs) zero {x} e b h =
      let w : y ≡ x = let z : y ∷ [] ≡ x ∷ [] = sym (at_first y xs) ∙ e in cc in
      let n : 0 * 64 + b ≡ b = omega arith in
      let l : b < length (f y) = omega (arith, rows y) in
      let g : get_or ((f y ++ gathered f xs) ++ rest) b 0 ≡ get_or (f x) b 0 =
      ap (λ u. get_or u b 0) (append_assoc (f y) (gathered f xs) rest) ∙ get_or-append (f y) (gathered f xs ++ rest) 0 b l ∙ ap (λ u. get_or (f u) b 0) w in
      (rw n g, omega (arith, length-append (f y ++ gathered f xs) rest, length-append (f y) (gathered f xs), rows y))
  rows_place (y ∷ xs) (suc i) {x} e b h =
      let r = rows_place xs i (sym (at_next i y xs) ∙ e) b h in
      let n : suc i * 64 + b ≡ length (f y) + (i * 64 + b) = omega (arith, rows y) in
      let g : get_or ((f y ++ gathered f xs) ++ rest) (length (f y) + (i * 64 + b)) 0 ≡ get_or (f x) b 0 =
      ap (λ u. get_or u (length (f y) + (i * 64 + b)) 0) (append_assoc (f y) (gathered f xs) rest) ∙ get_or-append-add (f y) (gathered f xs ++ rest) (i * 64 + b) 0 ∙ r.0 in
      (rw n g, omega (arith, length-append (f y ++ gathered f xs) rest, length-append (f y) (gathered f xs), length-append (gathered f xs) rest, rows y, r.1))
