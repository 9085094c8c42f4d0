-- The rows of a whole element, and of a whole node.
use Prim.Native.Nat.{ℕ, ◌+◌, ◌*◌}
use mathlib.Core.Bool.{true}
use mathlib.Core.List.{List, [], ◌∷◌, map, map-map}
use mathlib.Core.Path.{◌≡◌, sym, ◌∙◌, ap, subst}
use native.Mathlib.Omega.{arith}
use lib.ListN.{length, length-map}
use Rattle.format.specs.Lookup.{node_entries_of}
use Rattle.format.specs.Parsed.{Parsed, done, making, row_at}
use Rattle.format.specs.NodeLayout.{NodeHead, node_total, node_instance_at, node_head_at, node_at}
use Rattle.format.specs.Tree.{NodeInstance, Node}
use Rattle.format.proofs.ParsedLaws.{then_out, making_out}
use Rattle.fields.specs.Views.{Element}
use Rattle.fields.proofs.Parsing.{Found, found}
use Rattle.nodes.specs.Nodes.{node_id, node_element}
use Rattle.format.proofs.NodesAccepted.{nodes_more}
use Rattle.tables.specs.Kinds.{wanted_kind}
use Rattle.index.specs.Rows.{Row, Rows, filled, row_of, node_row}
use Rattle.index.proofs.Again.{done_out, node_head_again}

-- What is known of an element after some others holds after whatever others with as many instances, where two readings of it after these give the same.
module _ {A : Type 0} (p : List A → ℕ → Parsed A) (id size : A → ℕ) (total_of : List A → ℕ) (another : (a : A) (xs : List A) → total_of (a ∷ xs) ≡ size a + total_of xs)
    (rows : A → List Row) (sized : (a : A) → length (rows a) ≡ size a) (at : ℕ)
    (same : (b before : List A) → total_of b ≡ total_of before → (x y : A) (m n : ℕ) → p b at ≡ done x m → p before at ≡ done y n → (x ≡ y) × (m ≡ n)) where
  pub element-next : (t : Rows) (k : ℕ) {u : Rows} (b : List A) → k ≡ total_of b
      → {i n next : ℕ} → ◌≡◌ {A = Parsed Element} (done (record { id = i; instances = n }) next) (making (λ a. record { id = id a; instances = size a }) (p b at))
      → ((a : A) (m : ℕ) → p b at ≡ done a m → u ≡ filled t k (rows a))
      → (before : List A) (a : A) (m : ℕ) → k ≡ total_of before → p before at ≡ done a m
      → (next ≡ m) × (u ≡ filled t k (rows a)) × (k + n ≡ k + length (rows a)) × (k + n ≡ total_of (a ∷ before))
  element-next t k b counted {i} {n} {next} z fills before a m e d =
      let f : Found {B = Element} (λ a. record { id = id a; instances = size a }) (p b at) (record { id = i; instances = n }) next = found _ (p b at) z in
      let w = same b before (sym counted ∙ e) f.value a next m f.is d in
      let v : size f.value ≡ n = ap (λ x. x.instances) f.made in
      let o : size f.value ≡ size a = ap size w.0 in
      let r : p b at ≡ done a m = f.is ∙ rw (w.0, w.1) in
      (w.1, fills a m r, omega (arith, sized a), omega (arith, another a before))

-- One node: two readings of it, after whatever nodes with as many instances stand before it, give the same.
module _ (limit : ℕ) (s : List ℕ) (at : ℕ) where
  row_same : {t u c d a b : ℕ} → t ≡ u → c ≡ d → a ≡ b → row_at (node_instance_at limit s true t) c [] a ≡ row_at (node_instance_at limit s true u) d [] b
  row_same e f g = rw (e, f, g)

  made_same : {h k : NodeHead} {is js : List NodeInstance} → h ≡ k → is ≡ js
      → ◌≡◌ {A = Node} (record { id = h.id; type = h.type; instances = is }) (record { id = k.id; type = k.type; instances = js })
  made_same e f = rw (e, f)

  pub node_same : (b before : List Node) → node_total b ≡ node_total before → {x y : Node} {m n : ℕ} → node_at limit s true b at ≡ done x m → node_at limit s true before at ≡ done y n → (x ≡ y) × (m ≡ n)
  unfolding node_at
  node_same b before t {x} {y} {m} {n} e d =
      let p = then_out _ _ e in
      let q = then_out _ _ d in
      let h = done_out (sym (node_head_again s at (map node_id b) p.2) ∙ node_head_again s at (map node_id before) q.2) in
      let f = making_out _ _ p.3 in
      let g = making_out _ _ q.3 in
      let w = done_out (sym f.1 ∙ row_same t (ap (λ x. x.count) h.0) h.1 ∙ g.1) in
      (sym f.2 ∙ made_same h.0 w.0 ∙ g.2, w.1)

  module _ (t : Rows) (k : ℕ) {u : Rows} (b : List Node) (counted : k ≡ node_total b) where
    -- The rows of its instances, by its head.
    pub node_filled : {id type count a : ℕ} → ◌≡◌ {A = Parsed NodeHead} (done (record { id = id; type = type; count = count }) a) (node_head_at s true (map node_id b) at)
        → ((is : List NodeInstance) (m : ℕ) → row_at (node_instance_at limit s true k) count [] a ≡ done is m → u ≡ filled t k (map (λ i. row_of id (type * 2 + 1) i.number i.place) is))
        → (n : Node) (m : ℕ) → node_at limit s true b at ≡ done n m → u ≡ filled t k (map node_row (node_entries_of n))
    unfolding node_at node_entries_of node_row wanted_kind
    node_filled {id} {type} {count} {a} h f n m d =
        let p = then_out _ _ d in
        let g = making_out _ _ p.3 in
        let w = done_out (h ∙ p.2) in
        let c : count ≡ p.0.count = ap (λ x. x.count) w.0 in
        let i : id ≡ p.0.id = ap (λ x. x.id) w.0 in
        let j : type ≡ p.0.type = ap (λ x. x.type) w.0 in
        let r : row_at (node_instance_at limit s true k) count [] a ≡ done g.0 m = rw (counted, c, w.1) g.1 in
        subst (λ x. u ≡ filled t k (map node_row (node_entries_of x))) g.2 (f g.0 m r ∙ rw (i, j) (ap (filled t k) (sym (map-map node_row _ g.0))))

  pub node_next : (t : Rows) (k : ℕ) {u : Rows} (b : List Node) → k ≡ node_total b
      → {i n next : ℕ} → ◌≡◌ {A = Parsed Element} (done (record { id = i; instances = n }) next) (making node_element (node_at limit s true b at))
      → ((n : Node) (m : ℕ) → node_at limit s true b at ≡ done n m → u ≡ filled t k (map node_row (node_entries_of n)))
      → (before : List Node) (a : Node) (m : ℕ) → k ≡ node_total before → node_at limit s true before at ≡ done a m
      → (next ≡ m) × (u ≡ filled t k (map node_row (node_entries_of a))) × (k + n ≡ k + length (map node_row (node_entries_of a))) × (k + n ≡ node_total (a ∷ before))
  unfolding node_entries_of
  node_next = element-next (node_at limit s true) node_id (λ n. length n.instances) node_total nodes_more (λ n. map node_row (node_entries_of n)) (λ n. length-map (node_entries_of n) node_row ∙ length-map n.instances _) at (λ b before e x y m n. node_same b before e)
