-- The laws of `In` and `InOrder`.
use Prim.Native.Nat.{ℕ, zero, suc, ◌≤◌, ◌<◌}
use mathlib.Core.Bool.{Bool, true, false, cond}
use mathlib.Core.List.{List, [], ◌∷◌, ◌++◌, map}
use mathlib.Core.Logic.{◌⊎◌, inl, inr, ⊎_elim}
use mathlib.Core.Path.{◌≡◌, refl, sym, ◌∙◌, ap, subst}
use native.Mathlib.Omega.{arith}
use lib.ListN.{length}
use Rattle.numbers.proofs.Bools.{clash, same?}
use Rattle.graph.specs.Chains.{below, kept}
use Rattle.format.specs.Lookup.{at, gathered}
use Rattle.format.specs.Rules.{Every}
use Rattle.format.proofs.EveryLaws.{every_map, every-append_in, every-gathered_in, every-list_in}
use Rattle.format.proofs.PositionsLaws.{at_first, at_next, at_most, every_at}
use Rattle.isolation.proofs.GraphsLaws.{below_every}
use Rattle.demands.specs.Rows.{In, InOrder, Different}

-- What stands in a list

module _ {A : Type 0} where
  pub every_in : (P : A → Type 0) (xs : List A) {x : A} → Every P xs → In x xs → P x
  unfolding Every In
  every_in P [] h i = absurd i
  every_in P (y ∷ xs) h i = ⊎_elim (λ e. subst P (sym e) h.0) (every_in P xs h.1) i

  pub in_every : (P : A → Type 0) (xs : List A) → ((x : A) → In x xs → P x) → Every P xs
  unfolding Every In
  in_every P [] f = tt
  in_every P (x ∷ xs) f = (f x (inl refl), in_every P xs (λ y i. f y (inr i)))

  pub in_at : (xs : List A) {x : A} → In x xs → (k : ℕ) × (at k xs ≡ x ∷ [])
  unfolding In
  in_at [] i = absurd i
  in_at (y ∷ xs) i =
      ⊎_elim (λ e. (0, at_first y xs ∙ ap (λ z. z ∷ []) (sym e))) (λ j. let r = in_at xs j in (suc r.0, at_next r.0 y xs ∙ r.1)) i

  all_in : (xs : List A) → Every (λ x. In x xs) xs
  unfolding Every In
  all_in [] = tt
  all_in (x ∷ xs) = (inl refl, every_map (λ y. In y xs) (λ y. In y (x ∷ xs)) (λ y i. inr i) xs (all_in xs))

  pub at_in : (k : ℕ) (xs : List A) {x : A} → at k xs ≡ x ∷ [] → In x xs
  at_in k xs q = every_at (λ x. In x xs) k xs (all_in xs) q

  in-append_out : (x : A) (xs ys : List A) → In x (xs ++ ys) → In x xs ⊎ In x ys
  unfolding In
  in-append_out x [] ys i = inr i
  in-append_out x (y ∷ xs) ys i = ⊎_elim (λ e. inl (inl e)) (λ j. ⊎_elim (λ k. inl (inr k)) (λ k. inr k) (in-append_out x xs ys j)) i

  in_append_left : (x : A) (xs ys : List A) → In x xs → In x (xs ++ ys)
  unfolding In
  in_append_left x [] ys i = absurd i
  in_append_left x (y ∷ xs) ys i = ⊎_elim (λ e. inl e) (λ j. inr (in_append_left x xs ys j)) i

  in_append_right : (x : A) (xs ys : List A) → In x ys → In x (xs ++ ys)
  unfolding In
  in_append_right x [] ys i = i
  in_append_right x (y ∷ xs) ys i = inr (in_append_right x xs ys i)

  pub in_single : {x y : A} → In x (y ∷ []) → x ≡ y
  unfolding In
  in_single i = ⊎_elim (λ e. e) (λ n. absurd n) i

  pub in_empty : (x : A) {xs : List A} → xs ≡ [] → In x xs → ⊥
  unfolding In
  in_empty x e i = subst (In x) e i

  -- What stands at a position is all that stands there.
  pub in_place : (k : ℕ) (xs : List A) {x : A} → In x (at k xs) → at k xs ≡ x ∷ []
  in_place k xs {x} i =
      ⊎_elim (λ e. absurd (in_empty x e i)) (λ r. r.1 ∙ ap (λ y. y ∷ []) (sym (in_single (subst (In x) r.1 i)))) (at_most k xs)

  pub in_some : (x : A) (xs : List A) → In x xs → 1 ≤ length xs
  unfolding In
  in_some x [] i = absurd i
  in_some x (y ∷ xs) i = omega arith

  pub in_none : (xs : List A) → ((x : A) → In x xs → ⊥) → xs ≡ []
  unfolding In
  in_none [] f = refl
  in_none (x ∷ xs) f = absurd (f x (inl refl))

module _ {A B : Type 0} where
  pub in-gathered_out : (f : A → List B) (xs : List A) (y : B) → In y (gathered f xs) → (x : A) × In x xs × In y (f x)
  unfolding In gathered
  in-gathered_out f [] y i = absurd i
  in-gathered_out f (x ∷ xs) y i =
      ⊎_elim (λ j. (x, inl refl, j)) (λ j. let r = in-gathered_out f xs y j in (r.0, inr r.1, r.2)) (in-append_out y (f x) (gathered f xs) i)

  pub in-gathered_in : (f : A → List B) (xs : List A) (x : A) (y : B) → In x xs → In y (f x) → In y (gathered f xs)
  unfolding In gathered
  in-gathered_in f [] x y i j = absurd i
  in-gathered_in f (z ∷ xs) x y i j =
      ⊎_elim (λ e. in_append_left y (f z) (gathered f xs) (subst (λ w. In y (f w)) e j))
      (λ k. in_append_right y (f z) (gathered f xs) (in-gathered_in f xs x y k j)) i

  pub in-map_out : (g : A → B) (xs : List A) (y : B) → In y (map g xs) → (x : A) × In x xs × (y ≡ g x)
  unfolding In
  in-map_out g [] y i = absurd i
  in-map_out g (x ∷ xs) y i = ⊎_elim (λ e. (x, inl refl, e)) (λ j. let r = in-map_out g xs y j in (r.0, inr r.1, r.2)) i

  pub in-map_in : (g : A → B) (xs : List A) (x : A) → In x xs → In (g x) (map g xs)
  unfolding In
  in-map_in g [] x i = absurd i
  in-map_in g (z ∷ xs) x i = ⊎_elim (λ e. inl (ap g e)) (λ j. inr (in-map_in g xs x j)) i

pub in_kept_out : (p : ℕ → Bool) (xs : List ℕ) (x : ℕ) → In x (kept p xs) → In x xs × (p x ≡ true)
unfolding In kept
in_kept_out p [] x i = absurd i
in_kept_out p (y ∷ xs) x i = go (p y) refl (in_kept_out p xs x) i
  where
    go : (t : Bool) → p y ≡ t → (In x (kept p xs) → In x xs × (p x ≡ true)) → In x (cond t (y ∷ kept p xs) (kept p xs))
        → ((x ≡ y) ⊎ In x xs) × (p x ≡ true)
    go true d f j = ⊎_elim (λ e. (inl e, subst (λ z. p z ≡ true) (sym e) d)) (λ k. let r = f k in (inr r.0, r.1)) j
    go false d f j = let r = f j in (inr r.0, r.1)

pub in_kept_in : (p : ℕ → Bool) (xs : List ℕ) (x : ℕ) → In x xs → p x ≡ true → In x (kept p xs)
unfolding In kept
in_kept_in p [] x i t = absurd i
in_kept_in p (y ∷ xs) x i t = go (p y) refl (λ k. in_kept_in p xs x k t) i
  where
    go : (b : Bool) → p y ≡ b → (In x xs → In x (kept p xs)) → (x ≡ y) ⊎ In x xs → In x (cond b (y ∷ kept p xs) (kept p xs))
    go true d f j = ⊎_elim (λ e. inl e) (λ k. inr (f k)) j
    go false d f j = ⊎_elim (λ e. clash t (ap p e ∙ d)) f j

pub in_below_in : (n i : ℕ) → i < n → In i (below n)
unfolding below In
in_below_in zero i h = absurd (omega arith)
in_below_in (suc n) i h =
    ⊎_elim (λ e. in_append_right i (below n) (n ∷ []) (inl e)) (λ d. in_append_left i (below n) (n ∷ []) (in_below_in n i (omega arith))) (same? i n)

-- Order

module _ {A : Type 0} where
  pub order-map : (R S : A → A → Type 0) → ((x y : A) → R x y → S x y) → (xs : List A) → InOrder R xs → InOrder S xs
  unfolding InOrder
  order-map R S f [] h = tt
  order-map R S f (x ∷ xs) h = (every_map (R x) (S x) (f x) xs h.0, order-map R S f xs h.1)

  order-append : (R : A → A → Type 0) (xs ys : List A) → InOrder R xs → InOrder R ys → Every (λ x. Every (R x) ys) xs → InOrder R (xs ++ ys)
  unfolding InOrder Every
  order-append R [] ys h k c = k
  order-append R (x ∷ xs) ys h k c = (every-append_in (R x) xs ys h.0 c.0, order-append R xs ys h.1 k c.1)

  -- Two lists of the same elements in one order are one list.
  pub order_unique : (R : A → A → Type 0) → ((x : A) → R x x → ⊥) → ((x y : A) → R x y → R y x → ⊥)
      → (xs ys : List A) → InOrder R xs → InOrder R ys → ((x : A) → In x xs → In x ys) → ((x : A) → In x ys → In x xs) → xs ≡ ys
  unfolding InOrder In
  order_unique R irr asym [] [] h k f b = refl
  order_unique R irr asym [] (y ∷ ys) h k f b = absurd (b y (inl refl))
  order_unique R irr asym (x ∷ xs) [] h k f b = absurd (f x (inl refl))
  order_unique R irr asym (x ∷ xs) (y ∷ ys) h k f b =
      let e : x ≡ y =
      ⊎_elim (λ e. e)
      (λ i. ⊎_elim (λ d. sym d) (λ j. absurd (asym x y (every_in (R x) xs h.0 j) (every_in (R y) ys k.0 i))) (b y (inl refl)))
      (f x (inl refl)) in
      let t : xs ≡ ys =
      order_unique R irr asym xs ys h.1 k.1
      (λ z i. ⊎_elim (λ d. absurd (irr x (subst (R x) (d ∙ sym e) (every_in (R x) xs h.0 i)))) (λ j. j) (f z (inr i)))
      (λ z i. ⊎_elim (λ d. absurd (irr y (subst (R y) (d ∙ e) (every_in (R y) ys k.0 i)))) (λ j. j) (b z (inr i))) in
      rw (e, t)

  -- Different elements that are all one are one element.
  pub order_one : (y : A) (xs : List A) → In y xs → InOrder Different xs → ((x : A) → In x xs → x ≡ y) → length xs ≡ 1
  unfolding In InOrder
  order_one y [] i d f = absurd i
  order_one y (x ∷ []) i d f = refl
  order_one y (x ∷ (z ∷ xs)) i d f =
      absurd (every_in (Different x) (z ∷ xs) d.0 (inl refl) (f x (inl refl) ∙ sym (f z (inr (inl refl)))))

module _ {A B : Type 0} (R : A → A → Type 0) (S : B → B → Type 0) where
  pub order-list : (g : A → B) → ((x y : A) → R x y → S (g x) (g y)) → (xs : List A) → InOrder R xs → InOrder S (map g xs)
  unfolding InOrder
  order-list g f [] h = tt
  order-list g f (x ∷ xs) h = (every-list_in (S (g x)) g xs (every_map (R x) _ (f x) xs h.0), order-list g f xs h.1)

  -- Rows in order, and each before those that follow.
  pub order-gathered : (f : A → List B) → ((x : A) → InOrder S (f x)) → ((x y : A) → R x y → (a b : B) → In a (f x) → In b (f y) → S a b)
      → (xs : List A) → InOrder R xs → InOrder S (gathered f xs)
  unfolding InOrder gathered
  order-gathered f each cross [] h = tt
  order-gathered f each cross (x ∷ xs) h =
      order-append S (f x) (gathered f xs) (each x) (order-gathered f each cross xs h.1)
      (in_every _ (f x)
      (λ a i. every-gathered_in (S a) f xs (every_map (R x) _ (λ y r. in_every (S a) (f y) (λ b j. cross x y r a b i j)) xs h.0)))

kept_every : (p : ℕ → Bool) (P : ℕ → Type 0) (xs : List ℕ) → Every P xs → Every P (kept p xs)
kept_every p P xs h = in_every P (kept p xs) (λ x i. every_in P xs h (in_kept_out p xs x i).0)

pub order_kept : (R : ℕ → ℕ → Type 0) (p : ℕ → Bool) (xs : List ℕ) → InOrder R xs → InOrder R (kept p xs)
unfolding InOrder kept
order_kept R p [] h = tt
order_kept R p (x ∷ xs) h = go (p x) (order_kept R p xs h.1)
  where
    go : (t : Bool) → InOrder R (kept p xs) → InOrder R (cond t (x ∷ kept p xs) (kept p xs))
    go true k = (kept_every p (R x) xs h.0, k)
    go false k = k

pub order_below : (n : ℕ) → InOrder ◌<◌ (below n)
unfolding InOrder below Every
order_below zero = tt
order_below (suc n) = order-append ◌<◌ (below n) (n ∷ []) (order_below n) (tt, tt) (every_map (λ i. i < n) _ (λ i h. (h, tt)) (below n) (below_every n))
