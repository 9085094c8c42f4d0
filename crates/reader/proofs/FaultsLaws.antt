-- The tables of a file, and its faults of 12 to 14.
use Prim.Native.Nat.{ℕ, ◌≤◌}
use mathlib.Core.Bool.{true}
use mathlib.Core.List.{List, [], ◌∷◌, ◌++◌, map, map-map}
use mathlib.Core.Path.{◌≡◌, refl, sym, ◌∙◌, ap, subst}
use native.Mathlib.Omega.{arith}
use lib.ListN.{length, take, length-map}
use Rattle.limits.specs.Limits.{Limits}
use Rattle.numbers.specs.BigEndian.{Bytes}
use Rattle.format.specs.Cycles.{cycle_faults}
use Rattle.format.specs.FileLayout.{roots_at, file_at}
use Rattle.format.specs.Lookup.{register_entries, node_entries}
use Rattle.format.specs.NodeLayout.{nodes_at}
use Rattle.format.specs.Parsed.{Parsed, done, refused}
use Rattle.format.specs.References.{Fault, reference_faults}
use Rattle.format.specs.RegisterLayout.{registers_at}
use Rattle.format.specs.Tree.{Chip}
use Rattle.format.proofs.Grouping.{register-count, node-count}
use Rattle.format.proofs.ParsedLaws.{never}
use Rattle.tables.specs.Tables.{written}
use Rattle.tables.specs.Faults.{judged_at}
use Rattle.tables.proofs.TablesLaws.{written-take}
use Rattle.tables.proofs.FaultsLaws.{judged_stop}
use Rattle.index.specs.Rows.{Rows, filled, row_of, register_row, node_row}
use Rattle.tables.specs.Keys.{register_keys, node_keys}
use Rattle.index.specs.Columns.{register_kinds, node_wanted, node_places}
use Rattle.index.proofs.Again.{same_done}
use Rattle.index.proofs.FillingLaws.{filled_columns}
use Rattle.reader.specs.Layout.{Summary, layout_at}
use Rattle.reader.proofs.LayoutLaws.{Sections, sections}
use Rattle.reader.proofs.NameLaws.{layout_meets}

-- No fault: the list is empty.
pub faultless : (fs : List Fault) {k a : ℕ} {u : Unit {0}} → judged_at fs k ≡ done u a → (fs ≡ []) × (k ≡ a)
unfolding judged_at
faultless [] {k} {a} e = (refl, let z : k ≡ a = cc in z)
faultless (f ∷ fs) e = never e

module _ (c : Chip) (end : ℕ) {y : Parsed (Unit {0})} (names : y ≡ judged_at (reference_faults c) end) where
  pub all_refused : {n p : ℕ} → y ≡ refused n p → refused n p ≡ judged_at (reference_faults c ++ cycle_faults c) end
  all_refused e = sym (judged_stop (reference_faults c) (cycle_faults c) end end (sym names ∙ e))

  pub all_cycles : {u : Unit {0}} {a : ℕ} → y ≡ done u a → {z : Parsed (Unit {0})} → (reference_faults c ≡ [] → z ≡ judged_at (cycle_faults c) a) → z ≡ judged_at (reference_faults c ++ cycle_faults c) end
  all_cycles {u} {a} e {z} f =
      let g = faultless (reference_faults c) (sym names ∙ e) in
      let h : z ≡ judged_at (cycle_faults c) end = f g.0 ∙ ap (judged_at (cycle_faults c)) (sym g.1) in
      h ∙ ap (λ r. judged_at (r ++ cycle_faults c) end) (sym g.0)

-- A file whose layout was read: its sections stand where the layout says, and there is room for its instances.
pub record Laid (limits : Limits) (s : List ℕ) (l : Summary) (end : ℕ) (c : Chip) : Type 0 where
  pub registers : registers_at limits.register_instances s true l.registers_place ≡ done c.registers l.nodes_place
  pub nodes : nodes_at limits.node_instances s true l.nodes_place ≡ done c.nodes l.roots_place
  pub roots : roots_at s true l.roots_place ≡ done c.roots end
  pub register_count : l.register_instances ≡ length (register_entries c)
  pub node_count : l.node_instances ≡ length (node_entries c)
  pub register_room : length (register_entries c) ≤ limits.register_instances
  pub node_room : length (node_entries c) ≤ limits.node_instances

module _ (limits : Limits) (s : List ℕ) (bytes : Bytes s) {l : Summary} {end : ℕ} where
  laid_here : (z : Sections limits s 0 l end) → Laid limits s l end z.chip
  unfolding register_entries node_entries
  laid_here z =
      let m = layout_meets limits s bytes z.file in
      record {
        registers = z.registers;
        nodes = z.nodes;
        roots = z.roots;
        register_count = ap (λ x. x.register_instances) z.summed ∙ sym (register-count z.chip.registers);
        node_count = ap (λ x. x.node_instances) z.summed ∙ sym (node-count z.chip.nodes);
        register_room = m.within.registers;
        node_room = m.within.nodes;
      }

  pub laid : (c : Chip) → done l end ≡ layout_at limits s 0 → file_at limits s true 0 ≡ done c end → Laid limits s l end c
  laid c layout file =
      let z = sections limits s 0 (sym layout) in
      subst (Laid limits s l end) (same_done (sym z.file) file).0 (laid_here z)

  -- The layout of a file has no more instances than the limits allow.
  pub within_limits : done l end ≡ layout_at limits s 0 → (l.register_instances ≤ limits.register_instances) × (l.node_instances ≤ limits.node_instances)
  within_limits layout =
      let z = sections limits s 0 (sym layout) in
      let d = laid_here z in
      (omega (arith, d.register_count, d.register_room), omega (arith, d.node_count, d.node_room))

-- The tables of a file, filled from the front.
pub column : {E : Type 0} (es : List E) (f : E → ℕ) (k : ℕ) (u : List ℕ) → k ≡ length es → k ≤ length u → {t : List ℕ} → t ≡ written u 0 (map f es) → take k t ≡ map f es
column es f k u e h d =
    let i : k ≡ length (map f es) = e ∙ sym (length-map es f) in
    ap (take k) d ∙ written-take u (map f es) k i (omega arith)

module _ (c : Chip) (t : Rows) where
  module _ (m : ℕ) (e : m ≡ length (register_entries c)) {keys kinds spots : List ℕ}
      (r : ◌≡◌ {A = Rows} (record { keys = keys; kinds = kinds; places = spots }) (filled t 0 (map register_row (register_entries c)))) where
    rows : ◌≡◌ {A = Rows} (record { keys = keys; kinds = kinds; places = spots })
        (record { keys = written t.keys 0 (map (λ r. r.key) (map register_row (register_entries c))); kinds = written t.kinds 0 (map (λ r. r.kind) (map register_row (register_entries c))); places = written t.places 0 (map (λ r. r.place) (map register_row (register_entries c))) })
    rows = r ∙ filled_columns t 0 (map register_row (register_entries c))

    pub register-keys : m ≤ length t.keys → take m keys ≡ register_keys c
    unfolding register_row row_of
    register-keys h = column (register_entries c) _ m t.keys e h (ap (λ t. t.keys) rows ∙ ap (written t.keys 0) (map-map (λ r. r.key) register_row (register_entries c)))

    pub register-kinds : m ≤ length t.kinds → take m kinds ≡ register_kinds c
    unfolding register_row row_of
    register-kinds h = column (register_entries c) _ m t.kinds e h (ap (λ t. t.kinds) rows ∙ ap (written t.kinds 0) (map-map (λ r. r.kind) register_row (register_entries c)))

  pub node_tables : (n : ℕ) → n ≡ length (node_entries c) → n ≤ length t.keys → n ≤ length t.kinds → n ≤ length t.places → {nodes wanted places : List ℕ}
      → ◌≡◌ {A = Rows} (record { keys = nodes; kinds = wanted; places = places }) (filled t 0 (map node_row (node_entries c)))
      → (take n nodes ≡ node_keys c) × (take n wanted ≡ node_wanted c) × (take n places ≡ node_places c)
  unfolding node_row row_of
  node_tables n e h i j r =
      let es = node_entries c in
      let a = r ∙ filled_columns t 0 (map node_row es) in (
        column es _ n t.keys e h (ap (λ t. t.keys) a ∙ ap (written t.keys 0) (map-map (λ r. r.key) node_row es)),
        column es _ n t.kinds e i (ap (λ t. t.kinds) a ∙ ap (written t.kinds 0) (map-map (λ r. r.kind) node_row es)),
        column es _ n t.places e j (ap (λ t. t.places) a ∙ ap (written t.places 0) (map-map (λ r. r.place) node_row es)),
      )
