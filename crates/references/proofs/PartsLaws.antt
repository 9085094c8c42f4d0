-- The fault of a capture, a rule, a child and a whole node instance.
use Prim.Native.Nat.{ℕ, ◌+◌, ◌≤◌, ◌<◌}
use mathlib.Core.Bool.{true}
use mathlib.Core.List.{List, [], ◌∷◌, ◌++◌}
use mathlib.Core.Path.{◌≡◌, sym, ◌∙◌}
use lib.ListN.{length, set}
use borrow.Author.Tests.{lt-ltb, le-ltb}
use Rattle.format.specs.Fields.{field_at}
use Rattle.format.specs.ExpressionLayout.{expr_at}
use Rattle.limits.specs.Limits.{library_limits, levels}
use Rattle.format.specs.Lookup.{gathered}
use Rattle.format.specs.NodeLayout.{InstanceHead, capture_at, rule_at, child_at, instance_head_at, node_instance_at}
use Rattle.format.specs.Parsed.{Parsed, done, refused, row_at}
use Rattle.format.specs.References.{unless, named_by}
use Rattle.format.specs.Tree.{Capture, Rule, Child, NodeInstance, Expr}
use Rattle.tables.specs.Faults.{judged_at, position_in, present, register_faults_in, name_faults, capture_faults_in, rule_faults_in}
use Rattle.tables.specs.Kinds.{readable_kind}
use Rattle.tables.specs.Tables.{written}
use Rattle.tables.proofs.FaultsLaws.{judged_stop, judged_on}
use Rattle.index.proofs.Again.{same_done, not_refused}
use Rattle.index.proofs.PartsLaws.{naming_id, naming_number, naming_all, capture_fields, rule_fields, child_fields, Parts, instance_parts}
use Rattle.links.specs.Links.{child_number, children_put, childless, child_row}
use Rattle.links.proofs.ChildrenLaws.{children_small, link_next, row_put}
use Rattle.references.specs.FaultsIn.{child_faults_in, instance_faults_in}

-- The name of a child, found at position k of the keys of the node instances.
module _ (keys : List ℕ) (id number at next : ℕ) {k : ℕ} (e : k ≡ position_in keys id number) where
  pub name_there : k < length keys → done tt next ≡ judged_at (unless (present keys id number) 12 at) next
  unfolding judged_at present unless
  name_there h = simp (← e, lt-ltb _ _ h)

  pub name_absent : length keys ≤ k → refused 12 at ≡ judged_at (unless (present keys id number) 12 at) next
  unfolding judged_at present unless
  name_absent h = simp (← e, le-ltb _ _ h)

-- A child that has no fault and was written to a table: the place after it, and the table with the children to come.
pub child_put : (nodes t : List ℕ) (at : ℕ) (k : Child) (m : ℕ) {u : List ℕ} {next : ℕ} → done tt next ≡ judged_at (child_faults_in nodes k) m
    → u ≡ set t (at + k.bit) (child_number nodes k)
    → (next ≡ m) × ((ks : List Child) → children_put nodes u at ks ≡ children_put nodes t at (k ∷ ks))
child_put nodes t at k m d e = (sym (judged_on (child_faults_in nodes k) [] m (sym d)).0, link_next nodes t at k e)

module _ (s : List ℕ) (at : ℕ) where
  -- A capture whose fields the code read.
  module _ (keys kinds : List ℕ) {id a number next : ℕ} {y : Parsed (Unit {0})} where
    pub capture_judged : done id a ≡ field_at s at 3 → done number next ≡ field_at s a 1
        → y ≡ judged_at (register_faults_in keys kinds readable_kind id number at) next
        → (before : List Capture) (k : Capture) (m : ℕ) → capture_at s before at ≡ done k m → y ≡ judged_at (capture_faults_in keys kinds k) m
    unfolding capture_faults_in
    capture_judged p q h before k m e =
        let f = capture_fields s at before e in
        let i = same_done p f.1 in
        let w : done number next ≡ field_at s f.0 1 = q ∙ rw i.1 in
        let n = same_done w f.2 in
        h ∙ rw (i.0, n.0, n.1, f.3)

  pub capture_there : {B : Type 0} {id a w z : ℕ} → done id a ≡ field_at s at 3 → refused w z ≡ field_at s a 1
      → (before : List Capture) (k : Capture) (m : ℕ) → capture_at s before at ≡ done k m → B
  capture_there {B} {id} {a} {w} {z} p q before k m e =
      let f = capture_fields s at before e in
      let i = same_done p f.1 in
      let v : refused w z ≡ field_at s f.0 1 = q ∙ rw i.1 in
      not_refused v f.2

  pub capture_named : {B : Type 0} {w z : ℕ} → refused w z ≡ field_at s at 3
      → (before : List Capture) (k : Capture) (m : ℕ) → capture_at s before at ≡ done k m → B
  capture_named p before k m e = not_refused p (capture_fields s at before e).1

  -- A rule whose attention type the code read.
  module _ (keys kinds : List ℕ) (kind : ℕ) {t a : ℕ} {y : Parsed (Unit {0})} where
    pub rule_judged : done t a ≡ field_at s at 1
        → ((e : Expr) (m : ℕ) → expr_at s 16 a ≡ done e m → y ≡ judged_at (gathered (name_faults keys kinds kind) (named_by e)) m)
        → (before : List Rule) (r : Rule) (m : ℕ) → rule_at s true before at ≡ done r m → y ≡ judged_at (rule_faults_in keys kinds kind r) m
    unfolding rule_faults_in levels
    rule_judged p h before r m e =
        let f = rule_fields s at before e in
        let i = same_done p f.0 in
        h r.expression m (rw i.1 f.1)

  pub rule_there : {B : Type 0} {w z : ℕ} → refused w z ≡ field_at s at 1
      → (before : List Rule) (r : Rule) (m : ℕ) → rule_at s true before at ≡ done r m → B
  rule_there p before r m e = not_refused p (rule_fields s at before e).0

  -- A child whose fields the code read.
  module _ {t a : ℕ} (o : done t a ≡ field_at s at 1) where
    module _ {id b : ℕ} (p : done id b ≡ field_at s a 2) where
      pub child_judged : (keys : List ℕ) {number next : ℕ} {y : Parsed (Unit {0})}
          → done number next ≡ field_at s b 1 → y ≡ judged_at (unless (present keys id number) 12 at) next
          → (before : List Child) (k : Child) (m : ℕ) → child_at s true before at ≡ done k m → y ≡ judged_at (child_faults_in keys k) m
      unfolding child_faults_in
      child_judged keys q h before k m e =
          let f = child_fields s at before e in
          let w = naming_all f.0 o p q in
          h ∙ rw (w.1, w.2, w.3, f.1)

      pub child_there : {B : Type 0} {w z : ℕ} → refused w z ≡ field_at s b 1
          → (before : List Child) (k : Child) (m : ℕ) → child_at s true before at ≡ done k m → B
      child_there q before k m e = not_refused q (naming_number (child_fields s at before e).0 o p).0

    pub child_named : {B : Type 0} {w z : ℕ} → refused w z ≡ field_at s a 2
        → (before : List Child) (k : Child) (m : ℕ) → child_at s true before at ≡ done k m → B
    child_named p before k m e = not_refused p (naming_id (child_fields s at before e).0 o).0

  pub child-bit : {B : Type 0} {w z : ℕ} → refused w z ≡ field_at s at 1
      → (before : List Child) (k : Child) (m : ℕ) → child_at s true before at ≡ done k m → B
  child-bit p before k m e = not_refused p (child_fields s at before e).0.first_is

  -- A node instance whose head the code read.
  module _ (keys kinds nodes : List ℕ) (kind : ℕ) {h : InstanceHead} {a : ℕ} (p : done h a ≡ instance_head_at library_limits.node_instances s true 0 [] at)
      (limit total : ℕ) (before : List NodeInstance) (i : NodeInstance) (m : ℕ) (e : node_instance_at limit s true total before at ≡ done i m) where
    module _ {y : Parsed (Unit {0})}
        (c : (ks : List Capture) (m : ℕ) → row_at (capture_at s) h.captures [] a ≡ done ks m → y ≡ judged_at (gathered (capture_faults_in keys kinds) ks) m) where
      -- The captures decide, or have no fault.
      captures_judged : (q : Parts s at i m) → y ≡ judged_at (gathered (capture_faults_in keys kinds) i.captures) q.rules_at
      captures_judged q =
          let g = same_done p q.read in
          c i.captures q.rules_at (rw (g.0, g.1) q.captures)

      pub instance_captures_no : {n w : ℕ} → y ≡ refused n w → refused n w ≡ judged_at (instance_faults_in keys kinds nodes kind i) m
      unfolding instance_faults_in
      instance_captures_no r = let q = instance_parts s at limit total before e in sym (judged_stop _ _ _ _ (sym (captures_judged q) ∙ r))

      module _ {u : Unit {0}} {b : ℕ} (r : y ≡ done u b) {z : Parsed (Unit {0})}
          (d : (ks : List Rule) (m : ℕ) → row_at (rule_at s true) h.rules [] b ≡ done ks m → z ≡ judged_at (gathered (rule_faults_in keys kinds kind) ks) m) where
        rules_judged : (q : Parts s at i m)
            → (z ≡ judged_at (gathered (rule_faults_in keys kinds kind) i.rules) q.children_at)
            × (judged_at (instance_faults_in keys kinds nodes kind i) m ≡ judged_at (gathered (rule_faults_in keys kinds kind) i.rules ++ gathered (child_faults_in nodes) i.children) m)
        unfolding instance_faults_in
        rules_judged q =
            let g = same_done p q.read in
            let j = judged_on (gathered (capture_faults_in keys kinds) i.captures) (gathered (rule_faults_in keys kinds kind) i.rules ++ gathered (child_faults_in nodes) i.children) m (sym (captures_judged q) ∙ r) in
            (d i.rules q.children_at (rw (g.0, ← j.0) q.rules), j.1)

        pub instance_rules_no : {n w : ℕ} → z ≡ refused n w → refused n w ≡ judged_at (instance_faults_in keys kinds nodes kind i) m
        instance_rules_no t =
            let q = instance_parts s at limit total before e in
            let j = rules_judged q in
            sym (j.1 ∙ judged_stop _ _ _ _ (sym j.0 ∙ t))

        module _ {v : Unit {0}} {f : ℕ} (t : z ≡ done v f) where
          -- The rules have no fault either, so that the children stand at f and decide.
          children_judged : (row_at (child_at s true) h.children [] f ≡ done i.children m)
              × (judged_at (instance_faults_in keys kinds nodes kind i) m ≡ judged_at (gathered (child_faults_in nodes) i.children) m)
          children_judged =
              let q = instance_parts s at limit total before e in
              let g = same_done p q.read in
              let j = rules_judged q in
              let o = judged_on (gathered (rule_faults_in keys kinds kind) i.rules) (gathered (child_faults_in nodes) i.children) m (sym j.0 ∙ t) in
              (rw (g.0, ← o.0) q.children, j.1 ∙ o.1)

          pub instance-children : {x : Parsed (Unit {0})}
              → ((ks : List Child) (m : ℕ) → row_at (child_at s true) h.children [] f ≡ done ks m → x ≡ judged_at (gathered (child_faults_in nodes) ks) m)
              → x ≡ judged_at (instance_faults_in keys kinds nodes kind i) m
          instance-children k = let j = children_judged in k i.children m j.0 ∙ sym j.1

          -- A table whose 64 places from k on were cleared, and to which the children were then written.
          pub instance-row : (table : List ℕ) (k : ℕ) {cleared put : List ℕ} → cleared ≡ written table k (childless 64)
              → ((ks : List Child) (m : ℕ) → row_at (child_at s true) h.children [] f ≡ done ks m → put ≡ children_put nodes cleared k ks)
              → put ≡ written table k (child_row nodes i)
          instance-row table k l w = let j = children_judged in row_put nodes table k i (children_small s h.children [] f j.0) l (w i.children m j.0)

  pub instance_there : {B : Type 0} {w z : ℕ} → refused w z ≡ instance_head_at library_limits.node_instances s true 0 [] at
      → (limit total : ℕ) (before : List NodeInstance) (i : NodeInstance) (m : ℕ) → node_instance_at limit s true total before at ≡ done i m → B
  instance_there p limit total before i m e = not_refused p (instance_parts s at limit total before e).read
