-- The laws of `Every` and `Distinct`.
use Prim.Native.Nat.{ℕ}
use mathlib.Core.Bool.{Bool, true, false, ◌||◌}
use mathlib.Core.List.{List, [], ◌∷◌, ◌++◌, map}
use mathlib.Core.Logic.{⊎_elim}
use mathlib.Core.Path.{◌≡◌, refl, sym}
use lib.Dec.{eqb}
use borrow.Author.Tests.{eqb-false, ne_eqb}
use Rattle.numbers.proofs.Bools.{either, clash}
use Rattle.format.specs.Fields.{member, fresh}
use Rattle.format.specs.Lookup.{gathered}
use Rattle.format.specs.Rules.{Every, Distinct}

module _ {A : Type 0} (P Q : A → Type 0) where
  pub every_map : ((x : A) → P x → Q x) → (xs : List A) → Every P xs → Every Q xs
  unfolding Every
  every_map f [] h = tt
  every_map f (x ∷ xs) h = (f x h.0, every_map f xs h.1)

  pub every_both : (xs : List A) → Every P xs → Every Q xs → Every (λ x. P x × Q x) xs
  unfolding Every
  every_both [] h k = tt
  every_both (x ∷ xs) h k = ((h.0, k.0), every_both xs h.1 k.1)

module _ {A : Type 0} (P : A → Type 0) where
  pub every_all : ((x : A) → P x) → (xs : List A) → Every P xs
  unfolding Every
  every_all f [] = tt
  every_all f (x ∷ xs) = (f x, every_all f xs)

  pub every-append_out : (xs ys : List A) → Every P (xs ++ ys) → Every P xs × Every P ys
  unfolding Every
  every-append_out [] ys h = (tt, h)
  every-append_out (x ∷ xs) ys h = let r = every-append_out xs ys h.1 in ((h.0, r.0), r.1)

  pub every-append_in : (xs ys : List A) → Every P xs → Every P ys → Every P (xs ++ ys)
  unfolding Every
  every-append_in [] ys h k = k
  every-append_in (x ∷ xs) ys h k = (h.0, every-append_in xs ys h.1 k)

module _ {A B : Type 0} (P : B → Type 0) where
  pub every-gathered_out : (f : A → List B) (xs : List A) → Every P (gathered f xs) → Every (λ x. Every P (f x)) xs
  unfolding gathered Every
  every-gathered_out f [] h = tt
  every-gathered_out f (x ∷ xs) h =
      let r = every-append_out P (f x) (gathered f xs) h in (r.0, every-gathered_out f xs r.1)

  pub every-gathered_in : (f : A → List B) (xs : List A) → Every (λ x. Every P (f x)) xs → Every P (gathered f xs)
  unfolding gathered Every
  every-gathered_in f [] h = tt
  every-gathered_in f (x ∷ xs) h = every-append_in P (f x) (gathered f xs) h.0 (every-gathered_in f xs h.1)

  pub every-list_out : (g : A → B) (xs : List A) → Every P (map g xs) → Every (λ x. P (g x)) xs
  unfolding Every
  every-list_out g [] h = tt
  every-list_out g (x ∷ xs) h = (h.0, every-list_out g xs h.1)

  pub every-list_in : (g : A → B) (xs : List A) → Every (λ x. P (g x)) xs → Every P (map g xs)
  unfolding Every
  every-list_in g [] h = tt
  every-list_in g (x ∷ xs) h = (h.0, every-list_in g xs h.1)

-- Distinct numbers, seen from the last one back: each is new among those before it.

unfoldable pub New : List ℕ → List ℕ → Type 0
New before [] = Unit {0}
New before (x ∷ xs) = (fresh true before x ≡ true) × New (x ∷ before) xs

fresh_out : (before : List ℕ) (x : ℕ) → fresh true before x ≡ true → member x before ≡ false
unfolding fresh
fresh_out before x e = ⊎_elim (λ h. clash e (rw h)) (λ h. h) (either (member x before))

fresh_in : (before : List ℕ) (x : ℕ) → member x before ≡ false → fresh true before x ≡ true
unfolding fresh
fresh_in before x e = rw e

pub or-false_left : (s t : Bool) → s || t ≡ false → s ≡ false
or-false_left true t e = clash refl e
or-false_left false t e = refl

pub or-false_right : (s t : Bool) → s || t ≡ false → t ≡ false
or-false_right true t e = clash refl e
or-false_right false t e = e

or-false_both : {s t : Bool} → s ≡ false → t ≡ false → s || t ≡ false
or-false_both p q = rw (p, q)

flip : (x y : ℕ) → eqb x y ≡ false → eqb y x ≡ false
flip x y e = ne_eqb y x (λ h. eqb-false x y e (sym h))

abbrev Outside : List ℕ → List ℕ → Type 0
Outside before xs = Every (λ x. member x before ≡ false) xs

-- y is none of xs exactly when each of xs is not y.
others_out : (y : ℕ) (before xs : List ℕ) → Outside (y ∷ before) xs → (member y xs ≡ false) × Outside before xs
unfolding member Every
others_out y before [] h = (refl, tt)
others_out y before (x ∷ xs) h =
    let r = others_out y before xs h.1 in
    (or-false_both (flip x y (or-false_left _ _ h.0)) r.0, (or-false_right (eqb x y) _ h.0, r.1))

others_in : (y : ℕ) (before xs : List ℕ) → member y xs ≡ false → Outside before xs → Outside (y ∷ before) xs
unfolding member Every
others_in y before [] e h = tt
others_in y before (x ∷ xs) e h =
    (or-false_both (flip y x (or-false_left _ _ e)) h.0, others_in y before xs (or-false_right (eqb y x) _ e) h.1)

new_out : (before xs : List ℕ) → New before xs → Distinct xs × Outside before xs
unfolding New Distinct Every
new_out before [] h = (tt, tt)
new_out before (x ∷ xs) h =
    let r = new_out (x ∷ before) xs h.1 in
    let o = others_out x before xs r.1 in
    ((o.0, r.0), (fresh_out before x h.0, o.1))

new_in : (before xs : List ℕ) → Distinct xs → Outside before xs → New before xs
unfolding New Distinct Every
new_in before [] d h = tt
new_in before (x ∷ xs) d h =
    (fresh_in before x h.0, new_in (x ∷ before) xs d.1 (others_in x before xs d.0 h.1))

outside_none : (xs : List ℕ) → Outside [] xs
unfolding member Every
outside_none [] = tt
outside_none (x ∷ xs) = (refl, outside_none xs)

pub new_distinct : (xs : List ℕ) → New [] xs → Distinct xs
new_distinct xs h = (new_out [] xs h).0

pub distinct_new : (xs : List ℕ) → Distinct xs → New [] xs
distinct_new xs d = new_in [] xs d (outside_none xs)
