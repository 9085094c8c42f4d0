-- In an accepted file a name means one position: register instances and node instances are unique.
use Prim.Native.Nat.{ℕ, zero, suc, ◌≤◌, ◌<◌}
use mathlib.Core.Bool.{Bool, true, false, cond, ◌&&◌, ◌||◌}
use mathlib.Core.List.{List, [], ◌∷◌, ◌++◌, map}
use mathlib.Core.Logic.{◌⊎◌, inl, inr, ⊎_elim}
use mathlib.Core.Path.{◌≡◌, refl, sym, ◌∙◌, ap, subst}
use native.Mathlib.Omega.{arith}
use lib.Dec.{eqb, ltb}
use lib.ListN.{length}
use borrow.Author.Tests.{eqb-true, eq-eqb, lt-ltb, le-ltb, ltb-true, ltb-false}
use Rattle.numbers.proofs.Bools.{either, clash, and_left, and_right, or_left, or_right, or_cases}
use Rattle.format.specs.Fields.{member}
use Rattle.format.specs.Lookup.{some, position, at, gathered, RegisterEntry, entries_of, register_entries, register_named, NodeEntry, node_entries_of, node_entries, node_named, register_position, node_position}
use Rattle.format.specs.Rules.{Every, Distinct, NamesUnique}
use Rattle.format.specs.Tree.{Chip}
use Rattle.format.proofs.EveryLaws.{or-false_left, or-false_right, every-append_in, every-list_in, every-gathered_in}

-- What stands at a position.

pub at_first : {A : Type 0} (x : A) (xs : List A) → at 0 (x ∷ xs) ≡ x ∷ []
unfolding at
at_first x xs = refl

pub at_next : {A : Type 0} (i : ℕ) (x : A) (xs : List A) → at (suc i) (x ∷ xs) ≡ at i xs
unfolding at
at_next i x xs = refl

at_nothing : {A B : Type 0} (i : ℕ) {e : A} → at i [] ≡ e ∷ [] → B
unfolding at
at_nothing zero e = let z : ◌≡◌ {A = ℕ} 0 1 = cc in absurd (omega arith)
at_nothing (suc i) e = let z : ◌≡◌ {A = ℕ} 0 1 = cc in absurd (omega arith)

pub every_at : {A : Type 0} (P : A → Type 0) (i : ℕ) (xs : List A) {e : A} → Every P xs → at i xs ≡ e ∷ [] → P e
unfolding Every
every_at P i [] h q = at_nothing i q
every_at P zero (x ∷ xs) {e} h q = let w : x ≡ e = let z : x ∷ [] ≡ e ∷ [] = sym (at_first x xs) ∙ q in cc in subst P w h.0
every_at P (suc i) (x ∷ xs) h q = every_at P i xs h.1 (sym (at_next i x xs) ∙ q)

pub at_inside : {A : Type 0} (i : ℕ) (xs : List A) → i < length xs → (x : A) × (at i xs ≡ x ∷ [])
at_inside i [] h = absurd (omega arith)
at_inside zero (x ∷ xs) h = (x, at_first x xs)
at_inside (suc i) (x ∷ xs) h = let r = at_inside i xs (omega arith) in (r.0, at_next i x xs ∙ r.1)

pub inside_at : {A : Type 0} (i : ℕ) (xs : List A) {e : A} → at i xs ≡ e ∷ [] → i < length xs
inside_at i [] q = at_nothing i q
inside_at zero (x ∷ xs) q = omega arith
inside_at (suc i) (x ∷ xs) q = let h : i < length xs = inside_at i xs (sym (at_next i x xs) ∙ q) in omega arith

-- What stands at a position, or nothing.

pub at_empty : {A : Type 0} (i : ℕ) → ◌≡◌ {A = List A} (at i []) []
unfolding at
at_empty zero = refl
at_empty (suc i) = refl

pub at_most : {A : Type 0} (i : ℕ) (xs : List A) → (at i xs ≡ []) ⊎ ((x : A) × (at i xs ≡ x ∷ []))
at_most i [] = inl (at_empty i)
at_most zero (x ∷ xs) = inr (x, at_first x xs)
at_most (suc i) (x ∷ xs) = ⊎_elim (λ e. inl (at_next i x xs ∙ e)) (λ r. inr (r.0, at_next i x xs ∙ r.1)) (at_most i xs)

-- What passes a test is found at its position.
pub position_at : {A : Type 0} (test : A → Bool) (xs : List A) → some test xs ≡ true
    → (x : A) × (at (position test xs) xs ≡ x ∷ []) × (test x ≡ true)
unfolding some position
position_at test [] e = clash e refl
position_at {A} test (x ∷ xs) e = go (test x) refl (position_at test xs)
  where
    go : (t : Bool) → test x ≡ t → (some test xs ≡ true → (y : A) × (at (position test xs) xs ≡ y ∷ []) × (test y ≡ true))
        → (y : A) × (at (cond t 0 (suc (position test xs))) (x ∷ xs) ≡ y ∷ []) × (test y ≡ true)
    go true d f = (x, at_first x xs, d)
    go false d f =
        let r = f (⊎_elim (λ h. clash h d) (λ h. h) (or_cases (test x) _ e)) in
        (r.0, at_next (position test xs) x xs ∙ r.1, r.2)

pub some_at : {A : Type 0} (test : A → Bool) (i : ℕ) (xs : List A) {x : A} → at i xs ≡ x ∷ [] → test x ≡ true → some test xs ≡ true
unfolding some
some_at test i [] q t = at_nothing i q
some_at test zero (y ∷ xs) {x} q t =
    let w : x ≡ y = let z : y ∷ [] ≡ x ∷ [] = sym (at_first y xs) ∙ q in cc in
    or_left _ (subst (λ z. test z ≡ true) w t)
some_at test (suc i) (y ∷ xs) q t = or_right (test y) (some_at test i xs (sym (at_next i y xs) ∙ q) t)

pub some_one : {A : Type 0} (test : A → Bool) (x : A) → some test (x ∷ []) ≡ test x
unfolding some
some_one test x = go (test x)
  where
    go : (t : Bool) → t || false ≡ t
    go true = refl
    go false = refl

-- What passes no test is not found.
pub position_none : {A : Type 0} (test : A → Bool) (xs : List A) → some test xs ≡ false → position test xs ≡ length xs
unfolding some position
position_none test [] e = refl
position_none test (x ∷ xs) e =
    rw (or-false_left (test x) (some test xs) e) (ap suc (position_none test xs (or-false_right (test x) (some test xs) e)))

-- Elements with distinct keys: what has a key is found by it.

key_others : {A : Type 0} (key : A → ℕ) (v : ℕ) (xs : List A) → member v (map key xs) ≡ false → Every (λ x. eqb v (key x) ≡ false) xs
unfolding member Every
key_others key v [] e = tt
key_others key v (x ∷ xs) e = (or-false_left _ _ e, key_others key v xs (or-false_right (eqb v (key x)) _ e))

pub key_position : {A : Type 0} (key : A → ℕ) (xs : List A) → Distinct (map key xs) → (i : ℕ) {x : A} {v : ℕ} → at i xs ≡ x ∷ [] → key x ≡ v
    → position (λ y. eqb (key y) v) xs ≡ i
unfolding Distinct position
key_position key [] d i q e = at_nothing i q
key_position key (y ∷ xs) d zero {x} {v} q e =
    let w : y ≡ x = let z : y ∷ [] ≡ x ∷ [] = sym (at_first y xs) ∙ q in cc in
    rw (eq-eqb (key y) v (ap key w ∙ e))
key_position key (y ∷ xs) d (suc i) {x} {v} q e =
    let p = sym (at_next i y xs) ∙ q in
    let o : eqb (key y) v ≡ false = subst (λ u. eqb (key y) u ≡ false) e (every_at _ i xs (key_others key (key y) xs d.0) p) in
    rw o (ap suc (key_position key xs d.1 i p e))

-- Elements with an ID and inner elements with a number, as registers with instances and nodes with instances are.
module _ {O I E : Type 0} (oid : O → ℕ) (inner : O → List I) (num : I → ℕ) (entry : O → I → E) (eid enum : E → ℕ)
    (id_is : (o : O) (i : I) → eid (entry o i) ≡ oid o) (num-is : (o : O) (i : I) → enum (entry o i) ≡ num i) where
  abbrev named : ℕ → ℕ → E → Bool
  named id n e = eqb (eid e) id && eqb (enum e) n

  -- x is not named as y is.
  abbrev Other : E → E → Type 0
  Other x y = named (eid y) (enum y) x ≡ false

  -- No two entries have one name.
  unfoldable Apart : List E → Type 0
  Apart [] = Unit {0}
  Apart (x ∷ xs) = Every (Other x) xs × Apart xs

  other_number : (x y : E) → eqb (enum x) (enum y) ≡ false → Other x y
  other_number x y e = go (eqb (eid x) (eid y)) e
    where
      go : (s : Bool) {t : Bool} → t ≡ false → s && t ≡ false
      go true e = e
      go false e = refl

  other_id : (x y : E) → eqb (eid x) (eid y) ≡ false → Other x y
  other_id x y e = rw e

  inner_others : (o : O) (i : I) (is : List I) → member (num i) (map num is) ≡ false → Every (Other (entry o i)) (map (entry o) is)
  unfolding member Every
  inner_others o i [] e = tt
  inner_others o i (k ∷ is) e =
      (other_number _ _ (rw (num-is o i, num-is o k) (or-false_left _ _ e)), inner_others o i is (or-false_right (eqb (num i) (num k)) _ e))

  inner_apart : (o : O) (is : List I) → Distinct (map num is) → Apart (map (entry o) is)
  unfolding Distinct Apart
  inner_apart o [] d = tt
  inner_apart o (i ∷ is) d = (inner_others o i is d.0, inner_apart o is d.1)

  abbrev entries : O → List E
  entries o = map (entry o) (inner o)

  same_outer : (o p : O) (i : I) → eqb (oid o) (oid p) ≡ false → (is : List I) → Every (Other (entry o i)) (map (entry p) is)
  unfolding Every
  same_outer o p i e [] = tt
  same_outer o p i e (k ∷ is) = (other_id _ _ (rw (id_is o i, id_is p k) e), same_outer o p i e is)

  outer_others : (o : O) (i : I) (os : List O) → member (oid o) (map oid os) ≡ false → Every (λ p. Every (Other (entry o i)) (entries p)) os
  unfolding member Every
  outer_others o i [] e = tt
  outer_others o i (p ∷ os) e =
      (same_outer o p i (or-false_left _ _ e) (inner p), outer_others o i os (or-false_right (eqb (oid o) (oid p)) _ e))

  apart-append : (xs ys : List E) → Apart xs → Apart ys → Every (λ x. Every (Other x) ys) xs → Apart (xs ++ ys)
  unfolding Apart Every
  apart-append [] ys h k o = k
  apart-append (x ∷ xs) ys h k o = (every-append_in (Other x) xs ys h.0 o.0, apart-append xs ys h.1 k o.1)

  all_apart : (os : List O) → Distinct (map oid os) → Every (λ o. Distinct (map num (inner o))) os → Apart (gathered entries os)
  unfolding Distinct Every gathered Apart
  all_apart [] d h = tt
  all_apart (o ∷ os) d h =
      apart-append (entries o) (gathered entries os) (inner_apart o (inner o) h.0) (all_apart os d.1 h.1)
      (every-list_in _ (entry o) (inner o) (each (inner o)))
    where
      each : (is : List I) → Every (λ i. Every (Other (entry o i)) (gathered entries os)) is
      each [] = tt
      each (i ∷ is) = (every-gathered_in (Other (entry o i)) entries os (outer_others o i os d.0), each is)

  -- The entry at a position, and what its name means.
  apart_position : (es : List E) → Apart es → (i : ℕ) {e : E} (id n : ℕ) → at i es ≡ e ∷ [] → named id n e ≡ true → position (named id n) es ≡ i
  unfolding Apart position
  apart_position [] a i id n q t = at_nothing i q
  apart_position (x ∷ xs) a zero {e} id n q t =
      let w : e ≡ x = let z : x ∷ [] ≡ e ∷ [] = sym (at_first x xs) ∙ q in cc in
      let k : named id n x ≡ true = subst (λ y. named id n y ≡ true) w t in
      rw k
  apart_position (x ∷ xs) a (suc i) {e} id n q t =
      let p = sym (at_next i x xs) ∙ q in
      let o : Other x e = every_at (Other x) i xs a.0 p in
      let wi : eid e ≡ id = eqb-true _ _ (and_left _ _ t) in
      let wn : enum e ≡ n = eqb-true _ _ (and_right (eqb (eid e) id) _ t) in
      let k : named id n x ≡ false = subst (λ y. named id y x ≡ false) wn (subst (λ y. named y (enum e) x ≡ false) wi o) in
      rw k (ap suc (apart_position xs a.1 i id n p t))

module _ (c : Chip) (u : NamesUnique c) where
  -- What a name means is the position of the entry that has it.
  pub register-position : (i : ℕ) {e : RegisterEntry} (id n : ℕ) → at i (register_entries c) ≡ e ∷ [] → register_named id n e ≡ true
      → register_position c id n ≡ i
  unfolding register_position register_named register_entries entries_of
  register-position i id n q t =
      apart_position (λ r. r.id) (λ r. r.instances) (λ x. x.number)
      (λ r x. record { id = r.id; type = r.type; flags = r.flags; instance = x }) (λ e. e.id) (λ e. e.instance.number)
      (λ r x. refl) (λ r x. refl) (register_entries c)
      (all_apart (λ r. r.id) (λ r. r.instances) (λ x. x.number)
      (λ r x. record { id = r.id; type = r.type; flags = r.flags; instance = x }) (λ e. e.id) (λ e. e.instance.number)
      (λ r x. refl) (λ r x. refl) c.registers u.registers u.register_instances)
      i id n q t

  pub node-position : (i : ℕ) {e : NodeEntry} (id n : ℕ) → at i (node_entries c) ≡ e ∷ [] → node_named id n e ≡ true → node_position c id n ≡ i
  unfolding node_position node_named node_entries node_entries_of
  node-position i id n q t =
      apart_position (λ r. r.id) (λ r. r.instances) (λ x. x.number) (λ r x. record { id = r.id; type = r.type; instance = x }) (λ e. e.id)
      (λ e. e.instance.number) (λ r x. refl) (λ r x. refl) (node_entries c)
      (all_apart (λ r. r.id) (λ r. r.instances) (λ x. x.number) (λ r x. record { id = r.id; type = r.type; instance = x }) (λ e. e.id)
      (λ e. e.instance.number) (λ r x. refl) (λ r x. refl) c.nodes u.nodes u.node_instances)
      i id n q t

-- Something passes exactly where the position is inside the list.

ltb-suc : (a b : ℕ) → ltb a b ≡ ltb (suc a) (suc b)
ltb-suc a b = ⊎_elim (λ e. e ∙ sym (lt-ltb (suc a) (suc b) (let h : a < b = ltb-true a b e in omega arith))) (λ e. e ∙ sym (le-ltb (suc a) (suc b) (let h : b ≤ a = ltb-false a b e in omega arith))) (either (ltb a b))

module _ {E : Type 0} (test : E → Bool) where
  pub some_position : (es : List E) → some test es ≡ ltb (position test es) (length es)
  unfolding some position
  some_position [] = refl
  some_position (e ∷ es) = go (test e) (some_position es)
    where
      go : (t : Bool) → some test es ≡ ltb (position test es) (length es) → t || some test es ≡ ltb (cond t 0 (suc (position test es))) (suc (length es))
      go true r = sym (lt-ltb 0 (suc (length es)) (omega arith))
      go false r = r ∙ ltb-suc (position test es) (length es)

  -- What passes stands somewhere.
  pub some_out : (es : List E) → some test es ≡ true → (i : ℕ) × (e : E) × (at i es ≡ e ∷ []) × (test e ≡ true)
  some_out es h = let r = position_at test es h in (position test es, r.0, r.1, r.2)
