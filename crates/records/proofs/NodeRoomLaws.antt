-- The records of nodes whose numbers fit are allowed one after another.
use Prim.Native.Nat.{ℕ, suc, ◌<◌}
use mathlib.Core.Bool.{true}
use mathlib.Core.List.{List, [], ◌∷◌}
use mathlib.Core.Path.{◌≡◌}
use native.Mathlib.Omega.{arith}
use lib.Dec.{lit<, lit≤}
use lib.ListN.{length}
use Rattle.numbers.proofs.Bools.{and_both}
use Rattle.format.specs.Lookup.{gathered}
use Rattle.format.specs.Rules.{Every}
use Rattle.format.specs.Tree.{Capture, Rule, Child, NodeInstance, Node}
use Rattle.records.specs.declared.Before.{Before}
use Rattle.records.specs.Elements.{record_of, rule_records, capture_record, child_record, node_instance_records, node_records}
use Rattle.records.specs.Grammar.{element_of, allowed_as, allowed, taken}
use Rattle.records.proofs.RunLaws.{Run, step, run-append, run_one, run_all, run_each}
use Rattle.records.proofs.OwedLaws.{used-alone, owing, expr_run}
use Rattle.records.proofs.ElementFits.{CaptureFits, RuleFits, ChildFits, NodeInstanceFits, NodeFits}
use Rattle.records.proofs.RoomLaws.{Room, wider, follows_yes, counts_yes}

module _ (n ni t : ℕ) where
  child_step : (x : Child) (m : ℕ) (b : Before) → ChildFits x → Room 4 8 0 0 n ni 0 0 (suc m) t b
      → (allowed b (child_record x) ≡ true) × Room 4 8 0 0 n ni 0 0 m t (taken b (child_record x))
  unfolding child_record allowed allowed_as taken element_of
  child_step x m b f r = (
    and_both (follows_yes 4 8 b r.owed r.low r.high)
        (and_both (counts_yes 1 b.children (omega (arith, r.child_room))) (used-alone _ _ (lit< tt) f.bit f.number f.id (lit< tt))),
    search arith,
  )

  -- A rule owes one expression, and its expression pays it.
  rule_step : (k : ℕ) (x : Rule) (m : ℕ) (b : Before) → RuleFits x → Room 4 6 0 0 n ni 0 (suc m) k t b
      → (c : Before) × Run b (rule_records x) c × Room 4 6 0 0 n ni 0 m k t c
  unfolding rule_records allowed allowed_as taken element_of
  rule_step k x m b f r =
      let a = and_both (follows_yes 4 6 b r.owed r.low r.high)
      (and_both (counts_yes 1 b.rules (omega (arith, r.rule_room))) (used-alone _ _ f.attention (lit< tt) (lit< tt) (lit< tt) (lit< tt))) in
      let d = taken b (record_of 6 x.attention 0 0 0 0) in
      (owing d 0, step a (expr_run d x.expression 0 f.expression), search arith)

  capture_step : (u k : ℕ) (x : Capture) (m : ℕ) (b : Before) → CaptureFits x → Room 4 5 0 0 n ni (suc m) u k t b
      → (allowed b (capture_record x) ≡ true) × Room 4 5 0 0 n ni m u k t (taken b (capture_record x))
  unfolding capture_record allowed allowed_as taken element_of
  capture_step u k x m b f r = (
    and_both (follows_yes 4 5 b r.owed r.low r.high)
        (and_both (counts_yes 1 b.captures (omega (arith, r.capture_room))) (used-alone _ _ (lit< tt) (lit< tt) f.number f.id (lit< tt))),
    search arith,
  )

module _ (n t : ℕ) where
  instance_start : (x : NodeInstance) (m : ℕ) (b : Before) → NodeInstanceFits x → Room 3 8 0 0 n (suc m) 0 0 0 t b
      → (c : Before) × Run b (record_of 4 0 0 x.number 0 0 ∷ []) c × Room 4 5 0 0 n m (length x.captures) (length x.rules) (length x.children) t c
  unfolding allowed allowed_as taken element_of
  instance_start x m b f r =
      let c : length x.captures < 256 = f.capture_count in
      let u : length x.rules < 256 = f.rule_count in
      let k : length x.children < 256 = f.child_count in (
        _,
        run_one
            (and_both (follows_yes 3 8 b r.owed r.low r.high)
            (and_both (counts_yes 1 b.node_instances (omega (arith, r.node_instance_room)))
            (used-alone _ _ (lit< tt) (lit< tt) f.number (lit< tt) (lit< tt)))),
        search arith,
      )

  instance_step : (x : NodeInstance) (m : ℕ) (b : Before) → NodeInstanceFits x → Room 3 8 0 0 n (suc m) 0 0 0 t b
      → (c : Before) × Run b (node_instance_records x) c × Room 3 8 0 0 n m 0 0 0 t c
  unfolding node_instance_records
  instance_step x m b f r =
      let u = length x.rules in
      let k = length x.children in
      let p = instance_start x m b f r in
      let q = run_each CaptureFits capture_record (λ j. Room 4 5 0 0 n m j u k t) (capture_step n m t u k) x.captures p.0 f.captures p.2 in
      let v = run_all RuleFits rule_records (λ j. Room 4 6 0 0 n m 0 j k t) (rule_step n m t k) x.rules q.0 f.rules
      (wider 4 6 (lit≤ tt) (lit≤ tt) q.2) in
      let w = run_each ChildFits child_record (λ j. Room 4 8 0 0 n m 0 0 j t) (child_step n m t) x.children v.0 f.children
      (wider 4 8 (lit≤ tt) (lit≤ tt) v.2) in
      (w.0, run-append p.1 (run-append q.1 (run-append v.1 w.1)), wider 3 8 (lit≤ tt) (lit≤ tt) w.2)

module _ (t : ℕ) where
  node_start : (x : Node) (m : ℕ) (b : Before) → NodeFits x → Room 0 8 0 0 (suc m) 0 0 0 0 t b
      → (c : Before) × Run b (record_of 3 x.type 0 0 x.id 0 ∷ []) c × Room 3 8 0 0 m (length x.instances) 0 0 0 t c
  unfolding allowed allowed_as taken element_of
  node_start x m b f r =
      let l : length x.instances < 256 = f.count in (
        _,
        run_one
            (and_both (follows_yes 0 8 b r.owed r.low r.high)
            (and_both (counts_yes 2 b.nodes (omega (arith, r.node_room))) (used-alone _ _ f.type (lit< tt) (lit< tt) f.id (lit< tt)))),
        search arith,
      )

  node_step : (x : Node) (m : ℕ) (b : Before) → NodeFits x → Room 0 8 0 0 (suc m) 0 0 0 0 t b
      → (c : Before) × Run b (node_records x) c × Room 0 8 0 0 m 0 0 0 0 t c
  unfolding node_records
  node_step x m b f r =
      let p = node_start x m b f r in
      let q = run_all NodeInstanceFits node_instance_records (λ j. Room 3 8 0 0 m j 0 0 0 t) (instance_step m t) x.instances p.0 f.each p.2 in
      (q.0, run-append p.1 q.1, wider 0 8 (lit≤ tt) (lit≤ tt) q.2)

  pub nodes_run : (ns : List Node) (b : Before) → Every NodeFits ns → Room 0 8 0 0 (length ns) 0 0 0 0 t b
      → (c : Before) × Run b (gathered node_records ns) c × Room 0 8 0 0 0 0 0 0 0 t c
  nodes_run = run_all NodeFits node_records (λ m. Room 0 8 0 0 m 0 0 0 0 t) node_step
