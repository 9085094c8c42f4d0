-- Isolation nodes are read exactly where their encoding stands and they meet the rules.
use Prim.Native.Nat.{ℕ, ◌+◌, ◌^◌, ◌≤◌, ◌<◌}
use mathlib.Core.Bool.{true}
use mathlib.Core.List.{List, [], ◌∷◌, ◌++◌, map}
use mathlib.Core.Path.{◌≡◌, refl, sym, subst}
use native.Mathlib.Omega.{arith}
use lib.Dec.{lit<}
use lib.ListN.{length, length-append}
use borrow.Author.Tests.{ltb-true, lt-ltb}
use Rattle.numbers.specs.BigEndian.{bytes_of, Bytes}
use Rattle.numbers.proofs.BigEndianLaws.{length_bytes}
use Rattle.format.specs.Keywords.{node}
use Rattle.format.specs.Parsed.{done}
use Rattle.format.specs.Fields.{count_at, known_type, type_at, fresh}
use Rattle.format.specs.Tree.{NodeInstance, Node}
use Rattle.format.specs.NodeLayout.{node_total, NodeHead, node_head_at, node_at, nodes_at}
use Rattle.format.specs.Encoding.{encode_node_instance, encode_node, encode_nodes}
use Rattle.format.specs.Placing.{PlacedRow, PlacedNodeInstance, PlacedNode}
use Rattle.format.specs.Rules.{Every, Distinct}
use Rattle.format.proofs.ParsedLaws.{then_out, then_in, making_out, making_in, requiring_out, requiring_in}
use Rattle.format.proofs.Spelling.{Spell, spell_join, spell_split, field_out, field_in, Row, Reads, row_out, row_in, section_out, section_in}
use Rattle.format.proofs.RowLaws.{Among, among_out, among_in, row-map, row_both, limit_out, limit_in, total_out, total_in}
use Rattle.format.proofs.RegistersAccepted.{known_small}
use Rattle.format.proofs.NodeInstancesAccepted.{InstanceAlone, InstanceFine, instance-reads}

-- What reading needs of the instances of a node.
pub record InstancesFine (limit total at : ℕ) (is : List NodeInstance) : Type 0 where
  pub placed : PlacedRow PlacedNodeInstance encode_node_instance at is
  pub each : Every InstanceAlone is
  pub unique : Distinct (map (λ i. i.number) is)
  pub room : total + length is ≤ limit

module _ (limit total at : ℕ) (is : List NodeInstance) where
  instances_out : 0 < length is → Row (InstanceFine limit total) encode_node_instance [] at is → InstancesFine limit total at is
  instances_out z r =
      let enc = encode_node_instance in
      let a = among_out enc PlacedNodeInstance InstanceAlone (λ i. i.number) at is (row-map enc _ _ (λ b a x h. h.0) [] at is r) in
      let l = limit_out enc total limit [] at is z (row-map enc (InstanceFine limit total) _ (λ b a x h. h.1) [] at is r) in
      record { placed = a.0; each = a.1; unique = a.2; room = omega (arith, l) }

  instances_in : InstancesFine limit total at is → Row (InstanceFine limit total) encode_node_instance [] at is
  instances_in h =
      let enc = encode_node_instance in
      row_both enc _ _ [] at is (among_in enc PlacedNodeInstance InstanceAlone (λ i. i.number) at is h.placed h.each h.unique)
      (limit_in enc total limit [] at is (let l : total + 0 + length is ≤ limit = omega (arith, h.room) in l))

-- What reading needs of a node alone, and among the others.
pub record NodeAlone (n : Node) : Type 0 where
  pub id : n.id < 256 ^ 2
  pub type : known_type n.type ≡ true
  pub count : length n.instances < 256
  pub some : 0 < length n.instances
  pub each : Every InstanceAlone n.instances
  pub unique : Distinct (map (λ i. i.number) n.instances)

abbrev NodeFine : ℕ → List Node → ℕ → Node → Type 0
NodeFine limit before at n =
    Among encode_node PlacedNode NodeAlone (λ x. x.id) before at n × (node_total before + length n.instances ≤ limit)

module _ (limit : ℕ) (s : List ℕ) (bytes : Bytes s) where
  abbrev node_bytes : ℕ → ℕ → ℕ → List ℕ
  node_bytes i t n = bytes_of 2 i ++ (bytes_of 1 t ++ bytes_of 1 n)

  node-length : (i t n : ℕ) → length (node_bytes i t n) ≡ 4
  node-length i t n = simp (length-append, length_bytes)

  node_head_out : (ids : List ℕ) (at : ℕ) {h : NodeHead} {m : ℕ} → node_head_at s true ids at ≡ done h m
      → Spell s at m (node_bytes h.id h.type h.count)
      × (h.id < 256 ^ 2) × (known_type h.type ≡ true) × (h.count < 256) × (0 < h.count) × (fresh true ids h.id ≡ true)
  unfolding node_head_at type_at count_at
  node_head_out ids at {h} {m} e =
      let a = then_out _ _ e in
      let b = then_out _ _ a.3 in
      let d = making_out _ _ b.3 in
      let qa = requiring_out _ _ _ _ a.2 in
      let qb = requiring_out _ _ _ _ b.2 in
      let qd = requiring_out _ _ _ _ d.1 in
      let i = field_out s bytes at 2 qa.0 in
      let t = field_out s bytes a.1 1 qb.0 in
      let n = field_out s bytes b.1 1 qd.0 in
      subst
      (λ h. Spell s at m (node_bytes h.id h.type h.count)
      × (h.id < 256 ^ 2) × (known_type h.type ≡ true) × (h.count < 256) × (0 < h.count) × (fresh true ids h.id ≡ true))
      d.2
      (spell_join s i.0 (spell_join s t.0 n.0), i.1, qb.1, n.1, ltb-true 0 _ qd.1, qa.1)

  node_head_in : (ids : List ℕ) (at i t n : ℕ) {m : ℕ} → Spell s at m (node_bytes i t n)
      → i < 256 ^ 2 → known_type t ≡ true → n < 256 → 0 < n → fresh true ids i ≡ true
      → node_head_at s true ids at ≡ done (record { id = i; type = t; count = n }) m
  unfolding node_head_at type_at count_at
  node_head_in ids at i t n a hi ht hn hz hu =
      let b = spell_split s (bytes_of 2 i) (bytes_of 1 t ++ bytes_of 1 n) a in
      let c = spell_split s (bytes_of 1 t) (bytes_of 1 n) b.1 in
      then_in _ _ (requiring_in _ _ _ _ (field_in s bytes at 2 (lit< tt) b.0 hi) hu)
      (then_in _ _ (requiring_in _ _ _ _ (field_in s bytes _ 1 (lit< tt) c.0 (known_small t ht)) ht)
      (making_in _ _ (requiring_in _ _ _ _ (field_in s bytes _ 1 (lit< tt) c.1 hn) (lt-ltb 0 n hz)) refl))

  node-reads : Reads (NodeFine limit) encode_node s (node_at limit s true)
  unfolding node_at encode_node PlacedNode
  node-reads =
      record {
        sound = λ before at {x} {m} e.
            let t = then_out _ _ e in
            let g = making_out _ _ t.3 in
            let h = t.0 in
            let is = g.0 in
            let a = node_head_out _ at t.2 in
            let r = row_out _ _ s _ (instance-reads limit s bytes (node_total before)) h.count [] t.1 g.1 in
            let z : 0 < length is = omega (arith, r.1, a.4) in
            let w : t.1 ≡ at + 4 = omega (arith, a.0.ends, node-length h.id h.type h.count) in
            let f = instances_out limit (node_total before) t.1 is z r.2 in
            subst (λ x. Spell s at m (encode_node x) × NodeFine limit before at x) g.2 (
              spell_join s (subst (λ k. Spell s at t.1 (node_bytes h.id h.type k)) (sym r.1) a.0) r.0,
              (
                record {
                  placed = subst (λ p. PlacedRow PlacedNodeInstance encode_node_instance p is) w f.placed;
                  alone = record { id = a.1; type = a.2; count = omega (arith, r.1, a.3); some = z; each = f.each; unique = f.unique };
                  new = a.5;
                },
                f.room,
              ),
            );
        complete = λ before at {x} {m} a h.
            let k = h.0.alone in
            let b = spell_split s (node_bytes x.id x.type (length x.instances)) _ a in
            let w : at + 4 ≡ at + length (node_bytes x.id x.type (length x.instances)) =
            omega (arith, node-length x.id x.type (length x.instances)) in
            then_in _ _ (node_head_in _ at _ _ _ b.0 k.id k.type k.count k.some h.0.new)
            (making_in _ _
            (row_in _ _ s _ (instance-reads limit s bytes (node_total before)) [] _ x.instances b.1
            (instances_in limit (node_total before) _ x.instances
            (record {
              placed = subst (λ p. PlacedRow PlacedNodeInstance encode_node_instance p x.instances) w h.0.placed;
              each = k.each;
              unique = k.unique;
              room = h.1;
            })))
            refl);
      }

-- What reading needs of the nodes of a file.
pub record NodesFine (limit at : ℕ) (ns : List Node) : Type 0 where
  pub placed : PlacedRow PlacedNode encode_node (at + 6) ns
  pub count : length ns < 256 ^ 2
  pub some : 0 < length ns
  pub each : Every NodeAlone ns
  pub unique : Distinct (map (λ n. n.id) ns)
  pub room : node_total ns ≤ limit

pub nodes_none : node_total [] ≡ 0
unfolding node_total
nodes_none = refl

pub nodes_more : (n : Node) (ns : List Node) → node_total (n ∷ ns) ≡ length n.instances + node_total ns
unfolding node_total
nodes_more n ns = refl

module _ (limit : ℕ) (s : List ℕ) (bytes : Bytes s) (at : ℕ) where
  pub nodes_out : {ns : List Node} {m : ℕ} → nodes_at limit s true at ≡ done ns m → Spell s at m (encode_nodes ns) × NodesFine limit at ns
  unfolding nodes_at encode_nodes node
  nodes_out {ns} e =
      let t = section_out s bytes (NodeFine limit) encode_node (node_at limit s true) (node-reads limit s bytes) node 2 at e in
      let r : Row (NodeFine limit) encode_node [] (at + 6) ns = subst (λ p. Row (NodeFine limit) encode_node [] p ns) (omega arith) t.3 in
      let a = among_out encode_node PlacedNode NodeAlone (λ x. x.id) (at + 6) ns (row-map encode_node _ _ (λ b a x h. h.0) [] (at + 6) ns r) in
      let l =
      total_out encode_node (λ x. length x.instances) node_total nodes_none nodes_more limit [] (at + 6) ns t.1
      (row-map encode_node (NodeFine limit) _ (λ b a x h. h.1) [] (at + 6) ns r) in
      (t.0, record { placed = a.0; count = t.2; some = t.1; each = a.1; unique = a.2; room = omega (arith, nodes_none, l) })

  pub nodes-in : (ns : List Node) {m : ℕ} → Spell s at m (encode_nodes ns) → NodesFine limit at ns → nodes_at limit s true at ≡ done ns m
  unfolding nodes_at encode_nodes node
  nodes-in ns a h =
      section_in s bytes (NodeFine limit) encode_node (node_at limit s true) (node-reads limit s bytes) node 2 (lit< tt) (lit< tt) at ns a h.some h.count
      (subst (λ p. Row (NodeFine limit) encode_node [] p ns) (omega arith)
      (row_both encode_node _ _ [] (at + 6) ns
      (among_in encode_node PlacedNode NodeAlone (λ x. x.id) (at + 6) ns h.placed h.each h.unique)
      (total_in encode_node (λ x. length x.instances) node_total nodes_none nodes_more limit [] (at + 6) ns
      (let l : node_total [] + node_total ns ≤ limit = omega (arith, nodes_none, h.room) in l))))
