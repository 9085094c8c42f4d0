-- There is no fault exactly when what is named is there, what rules name fits, what is captured is readable, and no child entries make a cycle.
use Prim.Native.Nat.{ℕ, zero, suc, ◌+◌, ◌≤◌, ◌<◌}
use mathlib.Core.Bool.{Bool, true, false, not, ◌&&◌}
use mathlib.Core.List.{List, [], ◌∷◌, ◌++◌}
use mathlib.Core.Logic.{◌⊎◌, inl, inr, ⊎_elim, ◌↔◌}
use mathlib.Core.Path.{◌≡◌, refl, subst}
use native.Mathlib.Omega.{arith}
use lib.ListN.{length, drop_of_length-le}
use lib.Dec.{ltb}
use borrow.Author.Tests.{ltb-true, ltb-false, not-true}
use Rattle.numbers.proofs.Bools.{either, clash}
use Rattle.graph.specs.Paths.{Path, one, more, Inside, on_cycle}
use Rattle.graph.proofs.PathsLaws.{cycle_law}
use Rattle.format.specs.Tree.{Capture, Chip}
use Rattle.format.specs.Fields.{readable}
use Rattle.format.specs.Lookup.{some, at, gathered, RegisterEntry, register_entries, register_named, NodeEntry, node_entries}
use Rattle.format.specs.References.{Named, named_by, unless, fits, has_register, has_register_that, register_faults, has_node, capture_faults, named_faults, rule_faults, child_faults, instance_faults, root_faults, reference_faults}
use Rattle.format.specs.Cycles.{leads, child_edge, OnCycle, cycles_from, cycle_faults}
use Rattle.format.specs.Rules.{Every, all_captures, all_rules, all_children, NamesPresent, RegistersFit, CapturesReadable}
use Rattle.format.proofs.EveryLaws.{every_map, every_both, every-gathered_out, every-gathered_in}

-- Lists of faults that are empty

pub append_none : {A : Type 0} (xs ys : List A) → xs ++ ys ≡ [] → (xs ≡ []) × (ys ≡ [])
append_none [] ys e = (refl, e)
append_none (x ∷ xs) ys e = let z : ◌≡◌ {A = ℕ} 0 1 = cc in absurd (omega arith)

pub none-append : {A : Type 0} {xs ys : List A} → xs ≡ [] → ys ≡ [] → xs ++ ys ≡ []
none-append p q = rw (p, q)

module _ {A B : Type 0} (f : A → List B) where
  pub gathered_none : (xs : List A) → gathered f xs ≡ [] → Every (λ x. f x ≡ []) xs
  unfolding gathered Every
  gathered_none [] e = tt
  gathered_none (x ∷ xs) e = let r = append_none (f x) (gathered f xs) e in (r.0, gathered_none xs r.1)

  pub none-gathered : (xs : List A) → Every (λ x. f x ≡ []) xs → gathered f xs ≡ []
  unfolding gathered Every
  none-gathered [] h = refl
  none-gathered (x ∷ xs) h = none-append h.0 (none-gathered xs h.1)

pub unless_none : (ok : Bool) (n p : ℕ) → unless ok n p ≡ [] → ok ≡ true
unfolding unless
unless_none true n p e = refl
unless_none false n p e = let z : ◌≡◌ {A = ℕ} 0 1 = cc in absurd (omega arith)

pub none_unless : (ok : Bool) (n p : ℕ) → ok ≡ true → unless ok n p ≡ []
unfolding unless
none_unless ok n p e = rw e

-- References

module _ (c : Chip) where
  -- What is asked of a register that is named: that it is there, and then that it is as asked.
  abbrev That : (RegisterEntry → Bool) → ℕ → ℕ → Type 0
  That asked id number = some (λ x. register_named id number x && asked x) (register_entries c) ≡ true

  module _ (asked : RegisterEntry → Bool) (id number place : ℕ) where
    register_out : register_faults c asked id number place ≡ [] → (has_register c id number ≡ true) × That asked id number
    unfolding register_faults has_register_that
    register_out e = let r = append_none _ _ e in (unless_none _ _ _ r.0, unless_none _ _ _ r.1)

    register_in : (has_register c id number ≡ true) × That asked id number → register_faults c asked id number place ≡ []
    unfolding register_faults has_register_that
    register_in h = none-append (none_unless _ _ _ h.0) (none_unless _ _ _ h.1)

  abbrev Present : Named → Type 0
  Present n = has_register c n.id n.number ≡ true

  abbrev Fits : ℕ → Named → Type 0
  Fits type n = That (fits type) n.id n.number

  abbrev Captured : Capture → Type 0
  Captured k = has_register c k.id k.number ≡ true

  abbrev Readable : Capture → Type 0
  Readable k = That (λ x. readable x.flags) k.id k.number

  -- What is asked of a node instance.
  record EntryGood (e : NodeEntry) : Type 0 where
    pub captured : Every Captured e.instance.captures
    pub readable : Every Readable e.instance.captures
    pub present : Every (λ r. Every Present (named_by r.expression)) e.instance.rules
    pub fit : Every (λ r. Every (Fits e.type) (named_by r.expression)) e.instance.rules
    pub children : Every (λ k. has_node c k.id k.number ≡ true) e.instance.children

  entry_out : (e : NodeEntry) → instance_faults c e ≡ [] → EntryGood e
  unfolding instance_faults capture_faults rule_faults named_faults child_faults
  entry_out e h =
      let a = append_none _ _ h in
      let b = append_none _ _ a.1 in
      let caught : Every (λ k. Captured k × Readable k) e.instance.captures =
      every_map _ _ (λ k. register_out _ _ _ _) e.instance.captures (gathered_none _ _ a.0) in
      let both : Every (λ r. Every (λ n. Present n × Fits e.type n) (named_by r.expression)) e.instance.rules =
      every_map _ _ (λ r k. every_map _ _ (λ n. register_out _ _ _ _) (named_by r.expression) (gathered_none _ _ k)) e.instance.rules
      (gathered_none _ _ b.0) in
      record {
        captured = every_map _ _ (λ k x. x.0) _ caught;
        readable = every_map _ _ (λ k x. x.1) _ caught;
        present = every_map _ _ (λ r k. every_map _ _ (λ n x. x.0) _ k) _ both;
        fit = every_map _ _ (λ r k. every_map _ _ (λ n x. x.1) _ k) _ both;
        children = every_map _ _ (λ k. unless_none _ _ _) _ (gathered_none _ _ b.1);
      }

  entry_in : (e : NodeEntry) → EntryGood e → instance_faults c e ≡ []
  unfolding instance_faults capture_faults rule_faults named_faults child_faults
  entry_in e h =
      none-append (none-gathered _ _ (every_map _ _ (λ k. register_in _ _ _ _) _ (every_both _ _ _ h.captured h.readable)))
      (none-append
      (none-gathered _ _
      (every_map _ _ (λ r k. none-gathered _ _ (every_map _ _ (λ n. register_in _ _ _ _) _ (every_both _ _ _ k.0 k.1))) _
      (every_both _ _ _ h.present h.fit)))
      (none-gathered _ _ (every_map _ _ (λ k. none_unless _ _ _) _ h.children)))

  pub references_out : reference_faults c ≡ [] → NamesPresent c × RegistersFit c × CapturesReadable c
  unfolding reference_faults root_faults all_captures all_rules all_children RegistersFit CapturesReadable
  references_out h =
      let a = append_none _ _ h in
      let es : Every EntryGood (node_entries c) = every_map _ _ entry_out (node_entries c) (gathered_none _ _ a.0) in (
        record {
          captures = every-gathered_in _ _ _ (every_map _ _ (λ e k. k.captured) _ es);
          rules = every-gathered_in _ _ _ (every_map _ _ (λ e k. k.present) _ es);
          children = every-gathered_in _ _ _ (every_map _ _ (λ e k. k.children) _ es);
          roots = every_map _ _ (λ t. unless_none _ _ _) _ (gathered_none _ _ a.1);
        },
        every_map _ _ (λ e k. k.fit) _ es,
        every-gathered_in _ _ _ (every_map _ _ (λ e k. k.readable) _ es),
      )

  pub references_in : NamesPresent c → RegistersFit c → CapturesReadable c → reference_faults c ≡ []
  unfolding reference_faults root_faults all_captures all_rules all_children RegistersFit CapturesReadable
  references_in p f r =
      none-append
      (none-gathered _ _
      (every_map _ _
      (λ e k. entry_in e (record { captured = k.0.0.0; readable = k.0.0.1; present = k.0.1; fit = k.1.0; children = k.1.1 })) (node_entries c)
      (every_both _ _ _
      (every_both _ _ _
      (every_both _ _ _ (every-gathered_out _ _ _ p.captures) (every-gathered_out _ _ _ r)) (every-gathered_out _ _ _ p.rules))
      (every_both _ _ _ f (every-gathered_out _ _ _ p.children)))))
      (none-gathered _ _ (every_map _ _ (λ t. none_unless _ _ _) _ p.roots))

-- Cycles

some_never : {A : Type 0} (f : A → Bool) → ((x : A) → f x ≡ false) → (xs : List A) → some f xs ≡ false
unfolding some
some_never f h [] = refl
some_never f h (x ∷ xs) = rw (h x) (some_never f h xs)

pub some_none : {A : Type 0} (f : A → Bool) {xs : List A} → xs ≡ [] → some f xs ≡ false
unfolding some
some_none f e = rw e

pub at_none : {A : Type 0} (i : ℕ) (xs : List A) → length xs ≤ i → at i xs ≡ []
unfolding at
at_none i xs h = rw (drop_of_length-le xs h)

pub below? : (i n : ℕ) → (i < n) ⊎ (n ≤ i)
below? i n = ⊎_elim (λ h. inl (ltb-true i n h)) (λ h. inr (ltb-false i n h)) (either (ltb i n))

-- Both ends of an edge are node instances of the file.
pub edges_inside : (c : Chip) → Inside (length (node_entries c)) (child_edge c)
unfolding child_edge
edges_inside c i j e =
    let n = length (node_entries c) in (
      ⊎_elim (λ h. h) (λ h. clash e (some_none _ (at_none i (node_entries c) h))) (below? i n),
      ⊎_elim (λ h. h) (λ h. clash e (some_never _ (λ a. some_none (leads a) (at_none j (node_entries c) h)) _)) (below? j n),
    )

module _ (c : Chip) where
  abbrev cyclic : ℕ → Bool
  cyclic i = on_cycle (length (node_entries c)) (child_edge c) i

  -- What is computed of a cycle is that a path of child entries leads back.
  pub cycle_words : (i : ℕ) → (cyclic i ≡ true) ↔ OnCycle c i
  unfolding OnCycle
  cycle_words i = cycle_law (length (node_entries c)) (child_edge c) (edges_inside c) i

  from_out : (i : ℕ) (es : List NodeEntry) → cycles_from c i es ≡ [] → (k : ℕ) → k < length es → cyclic (i + k) ≡ false
  unfolding cycles_from
  from_out i [] h k l = absurd (omega arith)
  from_out i (e ∷ es) h zero l =
      let w : i + 0 ≡ i = omega arith in
      rw w (not-true (cyclic i) (unless_none _ _ _ (append_none (unless (not (cyclic i)) 14 e.instance.place) (cycles_from c (suc i) es) h).0))
  from_out i (e ∷ es) h (suc k) l =
      let w : i + suc k ≡ suc i + k = omega arith in
      rw w (from_out (suc i) es (append_none (unless (not (cyclic i)) 14 e.instance.place) (cycles_from c (suc i) es) h).1 k (omega arith))

  from_in : ((i : ℕ) → cyclic i ≡ false) → (i : ℕ) (es : List NodeEntry) → cycles_from c i es ≡ []
  unfolding cycles_from
  from_in h i [] = refl
  from_in h i (e ∷ es) = none-append (none_unless _ _ _ (rw (h i))) (from_in h (suc i) es)

  start_inside : {i j : ℕ} → Path (child_edge c) i j → i < length (node_entries c)
  start_inside (one e) = (edges_inside c _ _ e).0
  start_inside (more e p) = (edges_inside c _ _ e).0

  pub cycles_out : cycle_faults c ≡ [] → (i : ℕ) → OnCycle c i → ⊥
  unfolding cycle_faults OnCycle
  cycles_out h i p =
      let w : 0 + i ≡ i = omega arith in
      clash ((cycle_words i).1 p) (subst (λ x. cyclic x ≡ false) w (from_out 0 (node_entries c) h i (start_inside p)))

  pub cycles_in : ((i : ℕ) → OnCycle c i → ⊥) → cycle_faults c ≡ []
  unfolding cycle_faults
  cycles_in h = from_in (λ i. ⊎_elim (λ e. absurd (h i ((cycle_words i).0 e))) (λ e. e) (either (cyclic i))) 0 (node_entries c)
