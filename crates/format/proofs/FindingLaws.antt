-- The first rule, root or child entry of its attention type or bit: there is none, or it is one of them; and what it names is in a file whose names are present.
use Prim.Native.Nat.{ℕ, ◌<◌}
use mathlib.Core.Bool.{Bool, true, false}
use mathlib.Core.List.{List, [], ◌∷◌, map}
use mathlib.Core.Logic.{◌⊎◌, inl, inr, ⊎_elim}
use mathlib.Core.Option.{none, some}
use mathlib.Core.Path.{◌≡◌, sym, ◌∙◌, ap, subst}
use native.Mathlib.Omega.{arith}
use lib.Dec.{eqb}
use lib.ListN.{length}
use Rattle.numbers.proofs.Bools.{either, and_left}
use Rattle.format.specs.Finding.{first_of, rule_for, child_position}
use Rattle.format.specs.Lookup as lookup
use Rattle.format.specs.Lookup.{position, at, node_entries, node_named, node_position}
use Rattle.format.specs.References.{has_node}
use Rattle.format.specs.Rules.{Every, Distinct, NamesPresent}
use Rattle.format.specs.Tree.{Rule, Child, Root, NodeInstance, Chip}
use Rattle.format.proofs.FaultsLaws.{at_none}
use Rattle.format.proofs.PositionsLaws.{every_at, inside_at, position_at, position_none, some_at, key_position}

module _ {A : Type 0} (test : A → Bool) (xs : List A) where
  pub first_none : lookup.some test xs ≡ false → first_of test xs ≡ []
  unfolding first_of
  first_none e = at_none (position test xs) xs (omega (arith, position_none test xs e))

  pub first_some : lookup.some test xs ≡ true → (x : A) × (first_of test xs ≡ x ∷ []) × (at (position test xs) xs ≡ x ∷ []) × (test x ≡ true)
  unfolding first_of
  first_some e = let r = position_at test xs e in (r.0, r.1, r.1, r.2)

  -- What was found stands there, passes, and is alone.
  pub first_out : {x : A} {ys : List A} → first_of test xs ≡ x ∷ ys → (at (position test xs) xs ≡ x ∷ []) × (test x ≡ true) × (ys ≡ [])
  first_out {x} {ys} e =
      ⊎_elim
      (λ h. let r = first_some h in
      let w : r.0 ∷ [] ≡ x ∷ ys = sym r.1 ∙ e in
      let v : r.0 ≡ x = cc in
      (r.2 ∙ ap (λ y. y ∷ []) v, subst (λ y. test y ≡ true) v r.3, let u : ys ≡ [] = cc in u))
      (λ h. let w : [] ≡ x ∷ ys = sym (first_none h) ∙ e in let z : ◌≡◌ {A = ℕ} 0 1 = cc in absurd (omega arith))
      (either (lookup.some test xs))

  -- There is none, or there is one, and what holds of all holds of it.
  pub first_cases : (P : A → Type 0) → Every P xs → (first_of test xs ≡ []) ⊎ ((x : A) × P x × (first_of test xs ≡ x ∷ []))
  first_cases P h =
      ⊎_elim
      (λ t. let r = first_some t in inr (r.0, every_at P _ xs h r.2, r.1))
      (λ t. inl (first_none t))
      (either (lookup.some test xs))

-- What has a key that no other has is the first with it.
pub first_key : {A : Type 0} (key : A → ℕ) (xs : List A) → Distinct (map key xs) → (i : ℕ) {x : A} {v : ℕ} → at i xs ≡ x ∷ [] → key x ≡ v
    → first_of (λ y. eqb (key y) v) xs ≡ x ∷ []
unfolding first_of
first_key key xs d i q e = ap (λ k. at k xs) (key_position key xs d i q e) ∙ q

-- The rule of a node instance.
pub rule_cases : (P : Rule → Type 0) (attention : ℕ) (i : NodeInstance) → Every P i.rules
    → (rule_for attention i ≡ []) ⊎ ((r : Rule) × P r × (rule_for attention i ≡ r ∷ []))
unfolding rule_for
rule_cases P attention i h = first_cases _ i.rules P h

-- Names

module _ (c : Chip) where
  pub node_inside : (id number : ℕ) → has_node c id number ≡ true → node_position c id number < length (node_entries c)
  unfolding has_node node_position
  node_inside id number e = inside_at _ (node_entries c) (position_at (node_named id number) (node_entries c) e).1

  -- A root's node instance is one of the chip.
  pub root_inside : NamesPresent c → (k : ℕ) {t : Root} → at k c.roots ≡ t ∷ [] → node_position c t.id t.number < length (node_entries c)
  unfolding has_node
  root_inside present k {t} q =
      let r = position_at _ (node_entries c) (every_at _ k c.roots present.roots q) in
      node_inside t.id t.number (some_at (node_named t.id t.number) _ (node_entries c) r.1 (and_left _ _ r.2))

  -- So is the node instance that a child entry names.
  pub child_inside : (b : ℕ) (ks : List Child) {j : ℕ} → Every (λ k. has_node c k.id k.number ≡ true) ks
      → child_position c (first_of (λ k. eqb k.bit b) ks) ≡ some j → j < length (node_entries c)
  unfolding child_position
  child_inside b ks {j} h e =
      ⊎_elim
      (λ t. let r = first_some _ ks t in
      let w : some (node_position c r.0.id r.0.number) ≡ some j = sym (ap (child_position c) r.1) ∙ e in
      let v : node_position c r.0.id r.0.number ≡ j = cc in
      subst (λ x. x < length (node_entries c)) v (node_inside r.0.id r.0.number (every_at _ _ ks h r.2)))
      (λ t. let w : none ≡ some j = sym (ap (child_position c) (first_none _ ks t)) ∙ e in let z : ◌≡◌ {A = ℕ} 0 1 = cc in absurd (omega arith))
      (either (lookup.some (λ k. eqb k.bit b) ks))
