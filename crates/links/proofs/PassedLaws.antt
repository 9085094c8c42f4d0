-- The parts of a node instance that the code passes over.
use Prim.Native.Nat.{ℕ}
use mathlib.Core.Bool.{true}
use mathlib.Core.List.{List, []}
use mathlib.Core.Path.{◌≡◌, ◌∙◌, ap}
use Rattle.limits.specs.Limits.{library_limits}
use Rattle.format.specs.NodeLayout.{InstanceHead, capture_at, rule_at, instance_head_at, node_instance_at}
use Rattle.format.specs.Parsed.{Parsed, done, making, row_at}
use Rattle.format.specs.Tree.{NodeInstance}
use Rattle.fields.specs.Views.{forget}
use Rattle.index.proofs.Again.{done_out, same_done}
use Rattle.index.proofs.PartsLaws.{instance_parts}

-- What is passed over was read.
module _ {A : Type 0} {p : Parsed A} {a : A} {m : ℕ} (e : p ≡ done a m) where
  pub passed_over : {u : Unit {0}} {next : ℕ} → done u next ≡ forget p → next ≡ m
  unfolding making
  passed_over d = (done_out (d ∙ ap forget e)).1

-- A node instance whose head the code read, with the place a after it; b is the place after its captures.
module _ (s : List ℕ) (at : ℕ) {h : InstanceHead} {a : ℕ} (o : done h a ≡ instance_head_at library_limits.node_instances s true 0 [] at)
    (limit total : ℕ) (before : List NodeInstance) (i : NodeInstance) (m : ℕ) (e : node_instance_at limit s true total before at ≡ done i m) where
  pub captures_after : (b : ℕ) × (row_at (capture_at s) h.captures [] a ≡ done i.captures b)
  captures_after =
      let q = instance_parts s at limit total before e in
      let g = same_done o q.read in
      (q.rules_at, rw (g.0, g.1) q.captures)

  module _ {u : Unit {0}} {b : ℕ} (p : done u b ≡ forget (row_at (capture_at s) h.captures [] a)) where
    pub rules_after : (c : ℕ) × (row_at (rule_at s true) h.rules [] b ≡ done i.rules c)
    rules_after =
        let q = instance_parts s at limit total before e in
        let g = same_done o q.read in
        let k : row_at (capture_at s) h.captures [] a ≡ done i.captures q.rules_at = rw (g.0, g.1) q.captures in
        (q.children_at, rw (g.0, passed_over k p) q.rules)
