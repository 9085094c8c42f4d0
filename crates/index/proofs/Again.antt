-- An element that was read is read again, field by field, without what stood before it.
use Prim.Native.Nat.{ℕ}
use mathlib.Core.Bool.{true}
use mathlib.Core.List.{List, []}
use mathlib.Core.Path.{◌≡◌, refl, sym, ◌∙◌, ap}
use lib.Dec.{ltb}
use Rattle.limits.specs.Limits.{library_limits}
use Rattle.format.specs.Fields.{field_at, keyword_at, count_at, address_size, fresh, member}
use Rattle.format.specs.Parsed.{Parsed, done, refused, and_then, making, row_at}
use Rattle.format.specs.RegisterLayout.{RegisterHead, register_instance_at, register_head_at}
use Rattle.format.specs.NodeLayout.{NodeHead, instance_head_at, node_instance_at, node_head_at}
use Rattle.format.specs.Tree.{RegisterInstance, NodeInstance}
use Rattle.format.proofs.ParsedLaws.{never, then_out, then_in, making_out, requiring_out, requiring_in}
use Rattle.fields.proofs.Parsing.{Found, found}
use Rattle.registers.specs.declared.RegisterHead as declared
use Rattle.registers.specs.Registers.{register_flags_at, register_rest_at}
use Rattle.nodes.specs.Nodes.{node_number}
use Rattle.index.specs.declared.Head.{Head}
use Rattle.index.specs.declared.Instance.{Instance}
use Rattle.index.specs.Rows.{head_of, instance_of}

pub done_out : {A : Type 0} {a b : A} {n m : ℕ} → done a n ≡ done b m → (a ≡ b) × (n ≡ m)
done_out {A} {a} {b} {n} {m} e = (let p : a ≡ b = cc in p, let q : n ≡ m = cc in q)

-- What was read once is read again, and is not refused.
pub same_done : {A : Type 0} {p : Parsed A} {a b : A} {n m : ℕ} → done a n ≡ p → p ≡ done b m → (a ≡ b) × (n ≡ m)
same_done e d = done_out (e ∙ d)

pub not_refused : {A B : Type 0} {p : Parsed A} {n k : ℕ} {b : A} {m : ℕ} → refused n k ≡ p → p ≡ done b m → B
not_refused e d = never (e ∙ d)

-- What was read is not refused, whatever is kept of it.
pub unmade : {A B C : Type 0} (f : A → B) {p : Parsed A} {n k : ℕ} {a : A} {m : ℕ} → refused n k ≡ making f p → p ≡ done a m → C
unfolding making
unmade f e d = never (e ∙ ap (making f) d)

some_limit : ltb 0 library_limits.node_instances ≡ true
some_limit = refl

module _ (limit : ℕ) (s : List ℕ) (at : ℕ) where
  -- The fields of a register instance.
  pub register_instance_fields : (total type : ℕ) (before : List RegisterInstance) {i : RegisterInstance} {m : ℕ}
      → register_instance_at limit s true total type before at ≡ done i m
      → (field_at s at 1 ≡ done i.number i.place) × (field_at s i.place (address_size type) ≡ done i.address m)
  unfolding register_instance_at
  register_instance_fields total type before {i} {m} e =
      let t = then_out _ _ e in
      let q = requiring_out _ _ _ _ t.2 in
      let p = requiring_out _ _ _ _ q.0 in
      let g = making_out _ _ t.3 in
      let n : t.0 ≡ i.number = ap (λ x. x.number) g.2 in
      let l : t.1 ≡ i.place = ap (λ x. x.place) g.2 in
      let x : g.0 ≡ i.address = ap (λ x. x.address) g.2 in
      (p.0 ∙ rw (n, l), rw (← l) (g.1 ∙ rw x))

  pub register_instance_again : (total type : ℕ) (before : List RegisterInstance) {i : RegisterInstance} {m n p v next : ℕ}
      → done n p ≡ field_at s at 1 → done v next ≡ field_at s p (address_size type)
      → register_instance_at limit s true total type before at ≡ done i m
      → ◌≡◌ {A = Instance} (record { number = n; place = p; next = next }) (instance_of i.number i.place m)
  register_instance_again total type before {i} {m} {n} {p} {v} {next} a b e =
      let f = register_instance_fields total type before e in
      let h = same_done a f.0 in
      let k : done v next ≡ field_at s i.place (address_size type) = b ∙ rw h.1 in
      let l = same_done k f.1 in
      rw (h.0, h.1, l.1)

  pub register_instance_whole : {B : Type 0} (total type : ℕ) (before : List RegisterInstance) {i : RegisterInstance} {m n p w z : ℕ}
      → done n p ≡ field_at s at 1 → refused w z ≡ field_at s p (address_size type)
      → register_instance_at limit s true total type before at ≡ done i m → B
  register_instance_whole total type before {i} {m} {n} {p} {w} {z} a b e =
      let f = register_instance_fields total type before e in
      let h = same_done a f.0 in
      let k : refused w z ≡ field_at s i.place (address_size type) = b ∙ rw h.1 in
      not_refused k f.1

  pub register_instance_there : {B : Type 0} (total type : ℕ) (before : List RegisterInstance) {i : RegisterInstance} {m w z : ℕ}
      → refused w z ≡ field_at s at 1 → register_instance_at limit s true total type before at ≡ done i m → B
  register_instance_there total type before a e = not_refused a (register_instance_fields total type before e).0

module _ (s : List ℕ) (at : ℕ) where
  -- A register's head: its ID and the rest.
  register_head_parts : (ids : List ℕ) {h : RegisterHead} {m : ℕ} → register_head_at s true ids at ≡ done h m → (i : ℕ) × (a : ℕ) × (field_at s at 3 ≡ done i a) × (register_rest_at s i a ≡ done h m)
  unfolding register_head_at register_rest_at register_flags_at
  register_head_parts ids e =
      let t = then_out _ _ e in
      let q = requiring_out _ _ _ _ t.2 in
      (t.0, t.1, q.0, t.3)

  pub register_head_rest : (ids : List ℕ) {h : RegisterHead} {m i a : ℕ} → done i a ≡ field_at s at 3 → register_head_at s true ids at ≡ done h m → register_rest_at s i a ≡ done h m
  register_head_rest ids o e =
      let f = register_head_parts ids e in
      let g = same_done o f.2 in
      rw (g.0, g.1) f.3

  pub register_head_there : {B : Type 0} (ids : List ℕ) {h : RegisterHead} {m w z : ℕ} → refused w z ≡ field_at s at 3 → register_head_at s true ids at ≡ done h m → B
  register_head_there ids o e = not_refused o (register_head_parts ids e).2

  pub head_is : (ids : List ℕ) {h : RegisterHead} {m next i a : ℕ} {k : declared.RegisterHead}
      → done i a ≡ field_at s at 3
      → ◌≡◌ {A = Parsed RegisterHead} (done (record { id = k.id; type = k.kind; flags = k.flags; count = k.count }) next) (register_rest_at s i a)
      → register_head_at s true ids at ≡ done h m
      → ◌≡◌ {A = Head} (record { id = k.id; kind = k.kind; count = k.count; next = next }) (head_of h m)
  head_is ids o b e = let f = same_done b (register_head_rest ids o e) in rw (← f.0, f.1)

  -- A node's head without the IDs before it.
  pub node_head_again : (ids : List ℕ) {h : NodeHead} {m : ℕ} → node_head_at s true ids at ≡ done h m → node_head_at s true [] at ≡ done h m
  unfolding node_head_at fresh member
  node_head_again ids e =
      let t = then_out _ _ e in
      let q = requiring_out _ _ _ _ t.2 in
      then_in _ _ (requiring_in _ _ _ _ q.0 refl) t.3

module _ (limit : ℕ) (s : List ℕ) (at : ℕ) where
  -- A node instance without those before it.
  pub node_instance_again : (total : ℕ) (before : List NodeInstance) {i : NodeInstance} {m : ℕ} → node_instance_at limit s true total before at ≡ done i m
      → (node_instance_at library_limits.node_instances s true 0 [] at ≡ done i m) × (at ≡ i.place)
  unfolding node_instance_at instance_head_at fresh member
  node_instance_again total before {i} {m} e =
      let t = then_out _ _ e in
      let h = then_out _ _ t.2 in
      let q = requiring_out _ _ _ _ h.2 in
      let p = requiring_out _ _ _ _ q.0 in
      let c = then_out _ _ t.3 in
      let r = then_out _ _ c.3 in
      let k = making_out _ _ r.3 in
      (then_in _ _ (then_in _ _ (requiring_in _ _ _ _ (requiring_in _ _ _ _ p.0 some_limit) refl) h.3) t.3, ap (λ x. x.place) k.2)

  -- Two readings of a node instance, after whatever stands before it, give the same.
  pub node_instance_is : (total : ℕ) (b : List NodeInstance) {n next : ℕ} → done n next ≡ making node_number (node_instance_at limit s true total b at)
      → (before : List NodeInstance) {i : NodeInstance} {m : ℕ} → node_instance_at limit s true total before at ≡ done i m
      → ◌≡◌ {A = Instance} (record { number = n; place = at; next = next }) (instance_of i.number i.place m)
  node_instance_is total b {n} {next} z before {i} {m} e =
      let f : Found node_number (node_instance_at limit s true total b at) n next = found node_number (node_instance_at limit s true total b at) z in
      let g = node_instance_again total b f.is in
      let h = node_instance_again total before e in
      let w = done_out (sym g.0 ∙ h.0) in
      let k : n ≡ i.number = sym f.made ∙ ap node_number w.0 in
      rw (k, ← h.1, w.1)

module _ (s : List ℕ) (at : ℕ) where
  -- A section that was read: its keyword, its count, and its elements.
  module _ {A : Type 0} (word : List ℕ) (width : ℕ) (p : List A → ℕ → Parsed A) {xs : List A} {m : ℕ}
      (e : and_then (keyword_at s at word) (λ u a. and_then (count_at s a width) λ n b. row_at p n [] b) ≡ done xs m) where
    pub section_rows : {u : Unit {0}} {a n b : ℕ} → done u a ≡ keyword_at s at word → done n b ≡ count_at s a width → row_at p n [] b ≡ done xs m
    section_rows {u} {a} {n} {b} k c =
        let t = then_out _ _ e in
        let h = same_done k t.2 in
        let d = then_out _ _ t.3 in
        let l : done n b ≡ count_at s t.1 width = c ∙ rw h.1 in
        let i = same_done l d.2 in
        rw (i.0, i.1) d.3

    pub section_named : {B : Type 0} {w z : ℕ} → refused w z ≡ keyword_at s at word → B
    section_named k = let t = then_out _ _ e in not_refused k t.2

    pub section_counted : {B : Type 0} {u : Unit {0}} {a w z : ℕ} → done u a ≡ keyword_at s at word → refused w z ≡ count_at s a width → B
    section_counted {B} {u} {a} {w} {z} k c =
        let t = then_out _ _ e in
        let h = same_done k t.2 in
        let d = then_out _ _ t.3 in
        let l : refused w z ≡ count_at s t.1 width = c ∙ rw h.1 in
        not_refused l d.2
