-- The faults by the tables of a chip are the faults of the chip.
use Prim.Native.Nat.{ℕ, ◌^◌, ◌≤◌, ◌<◌}
use mathlib.Core.Bool.{Bool, true, false, ◌&&◌}
use mathlib.Core.List.{[], ◌∷◌}
use mathlib.Core.Logic.{⊎_elim}
use mathlib.Core.Path.{◌≡◌, refl, sym, ◌∙◌, subst}
use native.Mathlib.Omega.{arith}
use lib.Dec.{eqb, ltb}
use lib.ListN.{length, get_or, length-map, get_or-eq_default}
use borrow.Author.Tests.{ne_eqb, lt-ltb, ltb-true, ltb-false}
use Rattle.numbers.proofs.Bools.{either, clash, and_left, and_right, and_both, same_truth}
use Rattle.format.specs.Fields.{readable}
use Rattle.format.specs.Lookup.{position, at, RegisterEntry, register_entries, register_named, NodeEntry, node_entries, register_position}
use Rattle.format.specs.References.{Named, named_by, fits, has_register_that, register_faults, capture_faults, named_faults, rule_faults, child_faults, instance_faults}
use Rattle.format.specs.Rules.{Every, ExprFits, FieldsFit, NamesUnique, all_captures, all_rules, all_children}
use Rattle.format.specs.Tree.{Capture, Rule, Child, Chip}
use Rattle.format.proofs.EveryLaws.{every_map, every_both, every-gathered_out}
use Rattle.format.proofs.GatheredLaws.{gathered_same}
use Rattle.format.proofs.PositionsLaws.{every_at, position_at, some_at, register-position}
use Rattle.tables.specs.Faults.{register_faults_in, name_faults, capture_faults_in, rule_faults_in}
use Rattle.tables.specs.Keys.{register_keys, node_keys}
use Rattle.tables.specs.Kinds.{kind_of, wanted_kind, readable_kind}
use Rattle.tables.proofs.ColumnLaws.{column_at}
use Rattle.index.specs.Columns.{register_kinds}
use Rattle.references.specs.FaultsIn.{child_faults_in, instance_faults_in}
use Rattle.tables.proofs.KeysLaws.{Fitting, names_fit, registers_fit, register_position_in, register_present, node_present}
use Rattle.tables.proofs.KindsLaws.{kind_readable, kind_same}
use Rattle.format.proofs.PositionsLaws.{some_position, some_out}

module _ (c : Chip) (fit : FieldsFit c) where
  module _ (unique : NamesUnique c) where
    -- The kind at a name's position passes the test exactly when the register is as asked.
    module _ (test : ℕ → Bool) (asked : RegisterEntry → Bool) (absent : test 0 ≡ false)
        (tells : (e : RegisterEntry) → e.flags < 256 → test (kind_of e.type e.flags) ≡ asked e) (id number : ℕ) where
      kind_inside : position (register_named id number) (register_entries c) < length (register_entries c)
          → test (get_or (register_kinds c) (position (register_named id number) (register_entries c)) 0) ≡ has_register_that c asked id number
      unfolding has_register_that register_position
      kind_inside h =
          let d = position_at (register_named id number) (register_entries c) (some_position (register_named id number) (register_entries c) ∙ lt-ltb _ _ h) in
          let e = d.0 in
          let k : get_or (register_kinds c) (position (register_named id number) (register_entries c)) 0 ≡ kind_of e.type e.flags = column_at (λ e. kind_of e.type e.flags) (register_entries c) _ d.1 in
          let f = every_at _ _ (register_entries c) (registers_fit c fit) d.1 in
          rw (k, tells e f.1)
          (same_truth _ _
          (λ q. some_at _ _ (register_entries c) d.1 (and_both d.2 q))
          (λ q.
          let o = some_out (λ e. register_named id number e && asked e) (register_entries c) q in
          let p : position (register_named id number) (register_entries c) ≡ o.0 = register-position c unique o.0 id number o.2 (and_left _ _ o.3) in
          let s : at o.0 (register_entries c) ≡ e ∷ [] = subst (λ i. at i (register_entries c) ≡ e ∷ []) p d.1 in
          let w : o.1 ≡ e = let z : o.1 ∷ [] ≡ e ∷ [] = sym o.2 ∙ s in cc in
          subst (λ x. asked x ≡ true) w (and_right (register_named id number o.1) _ o.3)))

      kind_outside : length (register_entries c) ≤ position (register_named id number) (register_entries c)
          → test (get_or (register_kinds c) (position (register_named id number) (register_entries c)) 0) ≡ has_register_that c asked id number
      unfolding has_register_that register_position
      kind_outside h =
          let l : length (register_kinds c) ≤ position (register_named id number) (register_entries c) = rw (length-map (register_entries c) (λ e. kind_of e.type e.flags)) h in
          let k : get_or (register_kinds c) (position (register_named id number) (register_entries c)) 0 ≡ 0 = get_or-eq_default (register_kinds c) 0 l in
          rw (k, absent)
          (same_truth _ _ (λ q. clash q refl)
          (λ q.
          let o = some_out (λ e. register_named id number e && asked e) (register_entries c) q in
          let s = some_at (register_named id number) o.0 (register_entries c) o.2 (and_left _ _ o.3) in
          let b : ltb (position (register_named id number) (register_entries c)) (length (register_entries c)) ≡ true = sym (some_position (register_named id number) (register_entries c)) ∙ s in
          absurd (let z : position (register_named id number) (register_entries c) < length (register_entries c) = ltb-true _ _ b in omega arith)))

      register_same : (place : ℕ) → id < 256 ^ 3 → number < 256
          → register_faults_in (register_keys c) (register_kinds c) test id number place ≡ register_faults c asked id number place
      unfolding register_faults_in register_faults
      register_same place hi hn =
          rw (
            register_present c fit id number hi hn,
            register_position_in c fit id number hi hn,
            ⊎_elim (λ h. kind_inside (ltb-true _ _ h)) (λ h. kind_outside (ltb-false _ _ h))
                (either (ltb (position (register_named id number) (register_entries c)) (length (register_entries c)))),
          )

    named_same : (type : ℕ) (n : Named) → Fitting n → name_faults (register_keys c) (register_kinds c) (wanted_kind type) n ≡ named_faults c type n
    unfolding name_faults named_faults fits wanted_kind
    named_same type n h =
        register_same (λ k. eqb k (wanted_kind type)) (fits type) (ne_eqb 0 (wanted_kind type) (λ e. omega arith))
        (λ e f. kind_same e.type e.flags type f) n.id n.number n.place h.0 h.1

    capture_same : (k : Capture) → (k.id < 256 ^ 3) × (k.number < 256) → capture_faults_in (register_keys c) (register_kinds c) k ≡ capture_faults c k
    unfolding capture_faults_in capture_faults readable_kind
    capture_same k h =
        register_same readable_kind (λ e. readable e.flags) refl (λ e f. kind_readable e.type e.flags) k.id k.number k.place h.0 h.1

    rule_same : (type : ℕ) (r : Rule) → ExprFits r.expression → rule_faults_in (register_keys c) (register_kinds c) (wanted_kind type) r ≡ rule_faults c type r
    unfolding rule_faults_in rule_faults
    rule_same type r h =
        gathered_same _ _ (named_by r.expression) (every_map _ _ (named_same type) (named_by r.expression) (names_fit r.expression h))

    child_same : (k : Child) → (k.id < 256 ^ 2) × (k.number < 256) → child_faults_in (node_keys c) k ≡ child_faults c k
    unfolding child_faults_in child_faults
    child_same k h = rw (node_present c fit k.id k.number (omega (arith, h.0)) h.1)

    -- Each node instance has the same faults by the tables.
    pub instances_same : Every
        (λ e. instance_faults_in (register_keys c) (register_kinds c) (node_keys c) (wanted_kind e.type) e.instance ≡ instance_faults c e)
        (node_entries c)
    unfolding instance_faults_in instance_faults all_captures all_rules all_children
    instances_same =
        every_map _ _
        (λ (e : NodeEntry) h. rw (
          gathered_same _ _ e.instance.captures (every_map _ _ capture_same e.instance.captures h.0),
          gathered_same _ _ e.instance.rules (every_map _ _ (rule_same e.type) e.instance.rules h.1.0),
          gathered_same _ _ e.instance.children (every_map _ _ child_same e.instance.children h.1.1),
        ))
        (node_entries c)
        (every_both _ _ (node_entries c) (every-gathered_out _ _ (node_entries c) fit.captures)
        (every_both _ _ (node_entries c) (every-gathered_out _ _ (node_entries c) fit.expressions) (every-gathered_out _ _ (node_entries c) fit.children)))
