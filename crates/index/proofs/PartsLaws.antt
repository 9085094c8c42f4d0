-- The parts of a node instance that was read, and their fields.
use Prim.Native.Nat.{ℕ}
use mathlib.Core.Bool.{true}
use mathlib.Core.List.{List, []}
use mathlib.Core.Path.{◌≡◌, ◌∙◌, ap}
use Rattle.limits.specs.Limits.{library_limits}
use Rattle.format.specs.Fields.{field_at, attention_at}
use Rattle.format.specs.ExpressionLayout.{expr_at}
use Rattle.limits.specs.Limits.{levels}
use Rattle.format.specs.NodeLayout.{InstanceHead, capture_at, rule_at, child_at, instance_head_at, node_instance_at}
use Rattle.format.specs.Parsed.{done, row_at}
use Rattle.format.specs.Tree.{Capture, Rule, Child, NodeInstance}
use Rattle.format.proofs.ParsedLaws.{then_out, making_out, requiring_out}
use Rattle.index.proofs.Again.{same_done, node_instance_again}

-- A byte, an ID of two bytes and a number of one, as a child and a root have them.
pub record Naming (s : List ℕ) (at first id number m : ℕ) : Type 0 where
  pub id_at : ℕ
  pub number_at : ℕ
  pub first_is : field_at s at 1 ≡ done first id_at
  pub id_is : field_at s id_at 2 ≡ done id number_at
  pub number_is : field_at s number_at 1 ≡ done number m

-- What the code reads of these, field after field.
module _ {s : List ℕ} {at first id number m : ℕ} (f : Naming s at first id number m) {x a : ℕ} (o : done x a ≡ field_at s at 1) where
  pub naming_id : (field_at s a 2 ≡ done id f.number_at) × (x ≡ first)
  naming_id = let g = same_done o f.first_is in (rw g.1 f.id_is, g.0)

  module _ {i b : ℕ} (p : done i b ≡ field_at s a 2) where
    pub naming_number : (field_at s b 1 ≡ done number m) × (i ≡ id)
    naming_number = let g = same_done p naming_id.0 in (rw g.1 f.number_is, g.0)

    pub naming_all : {y n : ℕ} → done y n ≡ field_at s b 1 → (x ≡ first) × (i ≡ id) × (y ≡ number) × (n ≡ m)
    naming_all q = let g = same_done q naming_number.0 in (naming_id.1, naming_number.1, g.0, g.1)

module _ (s : List ℕ) (at : ℕ) where
  -- The fields of a capture, a rule and a child.
  pub capture_fields : (before : List Capture) {k : Capture} {m : ℕ} → capture_at s before at ≡ done k m
      → (a : ℕ) × (field_at s at 3 ≡ done k.id a) × (field_at s a 1 ≡ done k.number m) × (at ≡ k.place)
  unfolding capture_at
  capture_fields before {k} {m} e =
      let t = then_out _ _ e in
      let g = making_out _ _ t.3 in
      let i : t.0 ≡ k.id = ap (λ x. x.id) g.2 in
      let n : g.0 ≡ k.number = ap (λ x. x.number) g.2 in
      (t.1, t.2 ∙ rw i, g.1 ∙ rw n, ap (λ x. x.place) g.2)

  pub rule_fields : (before : List Rule) {r : Rule} {m : ℕ} → rule_at s true before at ≡ done r m
      → (field_at s at 1 ≡ done r.attention r.place) × (expr_at s levels r.place ≡ done r.expression m)
  unfolding rule_at attention_at
  rule_fields before {r} {m} e =
      let t = then_out _ _ e in
      let q = requiring_out _ _ _ _ t.2 in
      let p = requiring_out _ _ _ _ q.0 in
      let g = making_out _ _ t.3 in
      let i : t.0 ≡ r.attention = ap (λ x. x.attention) g.2 in
      let l : t.1 ≡ r.place = ap (λ x. x.place) g.2 in
      let x : g.0 ≡ r.expression = ap (λ x. x.expression) g.2 in
      (p.0 ∙ rw (i, l), rw (← l) (g.1 ∙ rw x))

  pub child_fields : (before : List Child) {k : Child} {m : ℕ} → child_at s true before at ≡ done k m
      → Naming s at k.bit k.id k.number m × (at ≡ k.place)
  unfolding child_at
  child_fields before {k} {m} e =
      let t = then_out _ _ e in
      let q = requiring_out _ _ _ _ t.2 in
      let p = requiring_out _ _ _ _ q.0 in
      let c = then_out _ _ t.3 in
      let g = making_out _ _ c.3 in
      let b : t.0 ≡ k.bit = ap (λ x. x.bit) g.2 in
      let i : c.0 ≡ k.id = ap (λ x. x.id) g.2 in
      let n : g.0 ≡ k.number = ap (λ x. x.number) g.2 in
      (record { id_at = t.1; number_at = c.1; first_is = p.0 ∙ rw b; id_is = c.2 ∙ rw i; number_is = g.1 ∙ rw n }, ap (λ x. x.place) g.2)

  -- The parts of a node instance.
  pub record Parts (i : NodeInstance) (m : ℕ) : Type 0 where
    pub head : InstanceHead
    pub captures_at : ℕ
    pub rules_at : ℕ
    pub children_at : ℕ
    pub read : instance_head_at library_limits.node_instances s true 0 [] at ≡ done head captures_at
    pub captures : row_at (capture_at s) head.captures [] captures_at ≡ done i.captures rules_at
    pub rules : row_at (rule_at s true) head.rules [] rules_at ≡ done i.rules children_at
    pub children : row_at (child_at s true) head.children [] children_at ≡ done i.children m

  parts_of : {i : NodeInstance} {m : ℕ} → node_instance_at library_limits.node_instances s true 0 [] at ≡ done i m → Parts i m
  unfolding node_instance_at
  parts_of {i} {m} e =
      let t = then_out _ _ e in
      let c = then_out _ _ t.3 in
      let r = then_out _ _ c.3 in
      let k = making_out _ _ r.3 in
      let cs : c.0 ≡ i.captures = ap (λ x. x.captures) k.2 in
      let rs : r.0 ≡ i.rules = ap (λ x. x.rules) k.2 in
      let ks : k.0 ≡ i.children = ap (λ x. x.children) k.2 in
      record { head = t.0; captures_at = t.1; rules_at = c.1; children_at = r.1; read = t.2; captures = c.2 ∙ rw cs; rules = r.2 ∙ rw rs; children = k.1 ∙ rw ks }

  pub instance_parts : (limit total : ℕ) (before : List NodeInstance) {i : NodeInstance} {m : ℕ} → node_instance_at limit s true total before at ≡ done i m → Parts i m
  instance_parts limit total before e = parts_of (node_instance_again limit s at total before e).0
