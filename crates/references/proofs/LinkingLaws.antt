-- Linking the children of node instances, entry after entry: four bytes each.
use Prim.Native.Nat.{ℕ, suc, ◌+◌, ◌*◌, ◌/◌, ◌%◌, ◌≤◌, ◌<◌}
use mathlib.Core.Bool.{true}
use mathlib.Core.List.{List, [], ◌∷◌, map}
use mathlib.Core.Path.{◌≡◌, refl, sym, ◌∙◌, ap, subst}
use native.Mathlib.Omega.{arith}
use borrow.Author.Tests.{lt-ltb}
use borrow.Rule.Slice.PartMut.{mid_of, put_mid}
use lib.Dec.{eqb}
use lib.ListN.{length, get_or, set, drop}
use Rattle.limits.specs.Limits.{library_limits}
use Rattle.numbers.specs.BigEndian.{Bytes}
use Rattle.format.specs.Fields.{field_at}
use Rattle.format.specs.Lookup.{position, gathered, NodeEntry}
use Rattle.format.specs.NodeLayout.{InstanceHead, child_at, instance_head_at}
use Rattle.format.specs.Parsed.{done, row_at}
use Rattle.format.specs.References.{Fault, unless}
use Rattle.format.specs.Rules.{Every}
use Rattle.format.specs.Tree.{Child}
use Rattle.format.proofs.ParsedLaws.{then_out, making_out}
use Rattle.fields.proofs.FieldLaws.{byte_field, two_field, field_size}
use Rattle.fields.proofs.Parsing.{row_end, row-length}
use Rattle.tables.specs.Faults.{position_in, present}
use Rattle.tables.specs.Tables.{key_of, written}
use Rattle.tables.proofs.ColumnLaws.{column_first, column_none}
use Rattle.tables.proofs.TablesLaws.{written-append}
use Rattle.index.specs.Rows.{ReadAgain, first_place, children_of, entry_children}
use Rattle.index.proofs.Again.{same_done}
use Rattle.index.proofs.FillingLaws.{row_first}
use Rattle.index.proofs.PartsLaws.{naming_all, child_fields, instance_parts}
use Rattle.links.specs.Links.{child_number, children_put, childless, child_row}
use Rattle.links.proofs.ChildrenLaws.{childless-length, part_written, part_length, linked-length, link_next, child_row-length}
use Rattle.references.specs.FaultsIn.{child_faults_in}

-- What the node instance is kept as that a child entry names.
abbrev name_in : List ℕ → ℕ → ℕ
name_in s at = key_of (get_or s (at + 1) 0 * 256 + get_or s (at + 2) 0) (get_or s (at + 3) 0)

-- The three bytes of a name are that.
pub name_bytes : (s : List ℕ) (at : ℕ) → Bytes s → get_or s (at + 1) 0 * 0x10000 + get_or s (at + 2) 0 * 0x100 + get_or s (at + 3) 0 ≡ name_in s at
unfolding key_of
name_bytes s at bytes = omega (arith, bytes (at + 1), bytes (at + 2), bytes (at + 3))

module _ (s : List ℕ) where
  -- A byte that is there.
  byte_read : (at : ℕ) → at + 1 ≤ length s → done (get_or s at 0) (at + 1) ≡ field_at s at 1
  byte_read at h = sym (byte_field s at (omega arith))

  -- The four bytes of a child entry that was read.
  child_bytes : (at : ℕ) → at + 4 ≤ length s → (before : List Child) (k : Child) (m : ℕ) → child_at s true before at ≡ done k m
      → (get_or s at 0 ≡ k.bit) × (name_in s at ≡ key_of k.id k.number) × (at + 4 ≡ m)
  child_bytes at h before k m e =
      let a : at + 1 + 1 ≡ at + 2 = omega arith in
      let b : at + 1 + 2 ≡ at + 3 = omega arith in
      let c : at + 3 + 1 ≡ at + 4 = omega arith in
      let p : done (get_or s (at + 1) 0 * 256 + get_or s (at + 2) 0) (at + 3) ≡ field_at s (at + 1) 2 = rw (← a, ← b) (sym (two_field s (at + 1) (omega arith))) in
      let q : done (get_or s (at + 3) 0) (at + 4) ≡ field_at s (at + 3) 1 = rw (← c) (byte_read (at + 3) (omega arith)) in
      let w = naming_all (child_fields s at before e).0 (byte_read at (omega arith)) p q in
      (w.0, rw (w.1, w.2), w.3)

-- A child whose name was found at position p has no fault, and is linked to that position.
module _ (s nodes : List ℕ) (at : ℕ) (h : at + 4 ≤ length s) {x p : ℕ} (n : x ≡ name_in s at) (e : p ≡ position (λ y. eqb y x) nodes) (l : p < length nodes)
    (before : List Child) (k : Child) (m : ℕ) (d : child_at s true before at ≡ done k m) where
  child_found : p ≡ position_in nodes k.id k.number
  unfolding position_in
  child_found = e ∙ ap (λ z. position (λ y. eqb y z) nodes) (n ∙ (child_bytes s at h before k m d).1)

  child_faultless : child_faults_in nodes k ≡ []
  unfolding child_faults_in present unless
  child_faultless = simp (← child_found, lt-ltb _ _ l)

  pub faultless_next : (at + 4 ≡ m) × ((ks : List Child) → gathered (child_faults_in nodes) ks ≡ gathered (child_faults_in nodes) (k ∷ ks))
  unfolding gathered
  faultless_next = ((child_bytes s at h before k m d).2, λ ks. rw child_faultless)

  pub linked_next : (row : List ℕ) → (at + 4 ≡ m) × ((ks : List Child) → children_put nodes (set row (get_or s at 0) (p % 0x10000)) 0 ks ≡ children_put nodes row 0 (k ∷ ks))
  unfolding child_number
  linked_next row =
      let b = child_bytes s at h before k m d in
      let z : 0 + k.bit ≡ k.bit = omega arith in
      (b.2, link_next nodes row 0 k (rw (z, b.0, child_found)))

-- No child, no fault.
pub faultless_none : (nodes : List ℕ) → gathered (child_faults_in nodes) [] ≡ []
unfolding gathered
faultless_none nodes = refl

-- The children of a node instance in its places of a table.
pub row_linked : (nodes t : List ℕ) (k n : ℕ) (ks : List Child) {u : List ℕ} → n ≡ 64 → k + n ≤ length t → u ≡ children_put nodes (childless (length (mid_of k n t))) 0 ks
    → put_mid k n t u ≡ written t k (children_put nodes (childless 64) 0 ks)
row_linked nodes t k n ks {u} z h e =
    let i : u ≡ children_put nodes (childless 64) 0 ks = e ∙ ap (λ j. children_put nodes (childless j) 0 ks) (part_length t k n h ∙ z) in
    let l : length (children_put nodes (childless 64) 0 ks) ≡ n = linked-length nodes (childless 64) 0 ks ∙ childless-length 64 ∙ sym z in
    part_written t k n u h (ap length i ∙ l) ∙ ap (written t k) i

-- The children of a node instance stand where it is kept that they do.
module _ (s : List ℕ) where
  -- A node instance has fewer than 256 children: their count has one byte.
  head_children : Bytes s → (limit total : ℕ) (numbers : List ℕ) (at : ℕ) {h : InstanceHead} {m : ℕ} → instance_head_at limit s true total numbers at ≡ done h m → h.children < 256
  unfolding instance_head_at
  head_children bytes limit total numbers at {h} {m} e =
      let t = then_out _ _ e in
      let c = then_out _ _ t.3 in
      let r = then_out _ _ c.3 in
      let g = making_out _ _ r.3 in
      let n : g.0 ≡ h.children = ap (λ x. x.children) g.2 in
      let b = field_size s r.1 1 g.1 in
      let v = same_done (byte_read s r.1 b.1) g.1 in
      omega (arith, n, v.0, bytes r.1)

  -- Children that were read are read at the place of the first, and are as many as they are.
  row_kept : (n at : ℕ) (ks : List Child) {m : ℕ} → row_at (child_at s true) n [] at ≡ done ks m
      → (next : ℕ) × (row_at (child_at s true) (length ks) [] (first_place ks) ≡ done ks next)
  unfolding first_place
  row_kept n at [] e = (0, row_end (child_at s true) 0 [] 0 (omega arith))
  row_kept n at (k ∷ ks) {m} e =
      let l : suc (length ks) ≡ n = row-length (child_at s true) n [] at e in
      let d = row_first (child_at s true) n [] at (omega arith) e in
      let i : d.0 ≡ k = let z : d.0 ∷ d.2 ≡ k ∷ ks = d.5 in cc in
      let p : at ≡ k.place = (child_fields s at [] d.3).1 ∙ ap (λ x. x.place) i in
      let f : row_at (child_at s true) n [] k.place ≡ done (k ∷ ks) m = subst (λ a. row_at (child_at s true) n [] a ≡ done (k ∷ ks) m) p e in
      (m, subst (λ j. row_at (child_at s true) j [] k.place ≡ done (k ∷ ks) m) (sym l) f)

  -- So what is kept of them, split in two, reads them.
  kept_children : Bytes s → (e : NodeEntry) → ReadAgain s e → {x : ℕ} → x ≡ entry_children e
      → (m : ℕ) × (row_at (child_at s true) (x % 256) [] (x / 256) ≡ done e.instance.children m)
  unfolding children_of
  kept_children bytes e a {x} g =
      let q = instance_parts s e.instance.place library_limits.node_instances 0 [] a.read in
      let b : q.head.children < 256 = head_children bytes library_limits.node_instances 0 [] e.instance.place q.read in
      let l : length e.instance.children ≡ q.head.children = row-length (child_at s true) _ [] _ q.children in
      let r = row_kept q.head.children q.children_at e.instance.children q.children in
      let f : x % 256 ≡ length e.instance.children = omega arith in
      let p : x / 256 ≡ first_place e.instance.children = omega arith in
      (r.0, rw (f, p) r.1)

-- All node instances, one after another.
module _ (s kids nodes : List ℕ) where
  -- What is wrong with the children of a node instance.
  abbrev pub faults_of : NodeEntry → List Fault
  faults_of e = gathered (child_faults_in nodes) e.instance.children

  -- The places of a node instance in the table.
  abbrev pub links_of : NodeEntry → List ℕ
  links_of e = child_row nodes e.instance

  -- The node instances before i have no child with a fault. With the children of those from i on, from place k on, the table t is what t₀ is with those of all.
  pub record Linking (t₀ t : List ℕ) (k i : ℕ) : Type 0 where
    pub rest : (es : List NodeEntry) → Every (ReadAgain s) es → kids ≡ map entry_children es
        → (ys : List NodeEntry) × Every (ReadAgain s) ys × (drop i kids ≡ map entry_children ys) × (gathered faults_of ys ≡ gathered faults_of es)
        × (written t k (gathered links_of ys) ≡ written t₀ 0 (gathered links_of es))

  pub linking_begin : (t : List ℕ) → Linking t t 0 0
  linking_begin t = record { rest = λ es a e. (es, a, e, refl, refl) }

  module _ {t₀ t : List ℕ} {k i : ℕ} (f : Linking t₀ t k i) where
    -- The children of the instance at i were linked.
    pub linking_next : Bytes s → i < length kids → {u : List ℕ}
        → ((ks : List Child) (m : ℕ) → row_at (child_at s true) (get_or kids i 0 % 256) [] (get_or kids i 0 / 256) ≡ done ks m
        → (gathered (child_faults_in nodes) ks ≡ []) × (u ≡ written t k (children_put nodes (childless 64) 0 ks)))
        → Linking t₀ u (k + 64) (i + 1)
    unfolding gathered Every child_row
    linking_next bytes h {u} linked =
        record {
          rest = λ es a e.
              let r = f.rest es a e in
              let d = column_first entry_children kids i r.0 h r.2 in
              let b : Every (ReadAgain s) (d.0 ∷ d.1) = subst (Every (ReadAgain s)) (sym d.2) r.1 in
              let c = kept_children s bytes d.0 b.0 d.3 in
              let q = linked d.0.instance.children c.0 c.1 in
              let n : k + 64 ≡ k + length (links_of d.0) = ap (λ z. k + z) (sym (child_row-length nodes d.0.instance)) in
              let v : gathered faults_of d.1 ≡ gathered faults_of (d.0 ∷ d.1) = rw q.0 in
              let w : written u (k + 64) (gathered links_of d.1) ≡ written t k (gathered links_of (d.0 ∷ d.1)) = rw (q.1, n) (sym (written-append t k (links_of d.0) (gathered links_of d.1))) in
              (d.1, b.1, d.4, v ∙ ap (gathered faults_of) d.2 ∙ r.3, w ∙ ap (λ z. written t k (gathered links_of z)) d.2 ∙ r.4);
        }

    pub linking_end : length kids ≤ i → (es : List NodeEntry) → Every (ReadAgain s) es → kids ≡ map entry_children es
        → (gathered faults_of es ≡ []) × (t ≡ written t₀ 0 (gathered links_of es))
    unfolding gathered written
    linking_end h es a e =
        let r = f.rest es a e in
        let d = column_none entry_children kids i r.0 h r.2 in
        (sym r.3 ∙ ap (gathered faults_of) d, ap (λ z. written t k (gathered links_of z)) (sym d) ∙ r.4)
