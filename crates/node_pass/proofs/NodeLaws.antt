-- Nodes by their four first bytes and their instances, and the section by its nodes.
use Prim.Native.Nat.{ℕ, ◌+◌, ◌-◌, ◌*◌, ◌≤◌, ◌<◌}
use mathlib.Core.Bool.{Bool, true, ◌&&◌}
use mathlib.Core.List.{List, [], ◌∷◌, map, map-map}
use mathlib.Core.Path.{◌≡◌, refl, sym, ◌∙◌, ap}
use mathlib.Core.Logic.{⊎_elim}
use native.Mathlib.Omega.{arith}
use borrow.Author.Tests.{lt-ltb}
use lib.ListN.{length, get_or, length-map, length-append}
use Rattle.numbers.proofs.Bools.{same?}
use Rattle.format.specs.Keywords.{node}
use Rattle.format.specs.Fields.{field_at, keyword_at, count_at, type_at, known_type, fresh}
use Rattle.format.specs.Lookup.{gathered, node_entries_of}
use Rattle.format.specs.NodeLayout.{node_instance_at, node_total, node_head_at, node_at, nodes_at}
use Rattle.format.specs.Parsed.{done, row_at}
use Rattle.format.specs.References.{Fault}
use Rattle.format.specs.Tree.{Node}
use Rattle.format.proofs.GatheredLaws.{gathered-map, map-gathered, gathered-gathered}
use Rattle.format.proofs.NodesAccepted.{nodes_none, nodes_more}
use Rattle.format.proofs.ParsedLaws.{then_in, making_in, requiring_in}
use Rattle.fields.specs.Seen.{Below}
use Rattle.fields.proofs.FieldLaws.{byte_field, two_field, type_one, type_two}
use Rattle.fields.proofs.Parsing.{row-length}
use Rattle.fields.proofs.SeenLaws.{below_nothing, below_put}
use Rattle.tables.specs.Kinds.{wanted_kind}
use Rattle.tables.specs.Tables.{written}
use Rattle.nodes.specs.Nodes.{node_id}
use Rattle.index.specs.Rows.{Row, Rows, filled, node_row, entry_children}
use Rattle.node_pass.specs.declared.Pass.{Pass}
use Rattle.node_pass.specs.declared.HeadPass.{HeadPass}
use Rattle.node_pass.specs.declared.NodesPass.{NodesPass}
use Rattle.node_pass.specs.declared.SectionPass.{SectionPass}
use Rattle.node_pass.specs.Passed.{entry_names_in, InstancesPassed, HeadPassed, NodesPassed, RowsPassed, SectionPassed}
use Rattle.node_pass.proofs.PassingLaws.{Passing, passing_begin, passing_next, passing_end}

-- What a node gives: rows, numbers for the column of children, and faults.
abbrev pub node_rows : Node → List Row
node_rows n = map node_row (node_entries_of n)

abbrev pub node_children : Node → List ℕ
node_children n = map entry_children (node_entries_of n)

known-type : (k : ℕ) → 1 ≤ k → k ≤ 2 → known_type k ≡ true
known-type k a b = ⊎_elim (type_one k) (λ e. let h : k ≡ 2 = omega arith in type_two k h) (same? k 1)

rows-length : (n : Node) → length (node_rows n) ≡ length n.instances
unfolding node_entries_of
rows-length n = length-map (node_entries_of n) node_row ∙ length-map n.instances _

rows_total : (ns : List Node) → length (gathered node_rows ns) ≡ node_total ns
unfolding gathered node_total
rows_total [] = refl
rows_total (n ∷ ns) = length-append (node_rows n) (gathered node_rows ns) ∙ rw (rows-length n, rows_total ns)

-- What a node starts with, by its four bytes.
pub head_passed : (s : List ℕ) (bound at : ℕ) {h : HeadPass} → bound ≤ h.id → 1 ≤ h.kind → h.kind ≤ 2 → (h.count ≡ 0 → ⊥)
    → h.id ≡ get_or s at 0 * 256 + get_or s (at + 1) 0 → h.kind ≡ get_or s (at + 2) 0 → h.count ≡ get_or s (at + 3) 0
    → get_or s at 0 < 256 → get_or s (at + 1) 0 < 256 → at + 4 ≤ length s → HeadPassed s bound at h
unfolding node_head_at count_at type_at
head_passed s bound at {h} rises low high some ei ek ec f g w =
    let b : at + 2 + 1 ≡ at + 3 = omega arith in
    let d : at + 3 + 1 ≡ at + 4 = omega arith in
    let first : field_at s at 2 ≡ done h.id (at + 2) = rw ei (two_field s at (omega arith)) in
    let second : field_at s (at + 2) 1 ≡ done h.kind (at + 3) = rw (ek, ← b) (byte_field s (at + 2) (omega arith)) in
    let third : field_at s (at + 3) 1 ≡ done h.count (at + 4) = rw (ec, ← d) (byte_field s (at + 3) (omega arith)) in
    record {
      rises = rises;
      small = omega arith;
      within = w;
      read = λ ids below.
          then_in _ _ (requiring_in (fresh true ids) 7 at _ first (below.above h.id rises))
          (then_in _ _ (requiring_in known_type 6 (at + 2) _ second (known-type h.kind low high)) (making_in _ _ (requiring_in _ 5 (at + 3) _ third (lt-ltb 0 h.count (omega arith))) refl));
    }

-- A node that is read in the pass, after others.
pub record NodePassed (limit : ℕ) (s keys kinds : List ℕ) (at total id count : ℕ) (t : Rows) (c : List ℕ) (u : Rows) (d : List ℕ) (p : Pass) (before : List Node) : Type 0 where
  pub node : Node
  pub named : node.id ≡ id
  pub read : node_at limit s true before at ≡ done node p.next
  pub sized : length node.instances ≡ count
  pub rows : u ≡ filled t total (node_rows node)
  pub children_are : d ≡ written c total (node_children node)
  pub fit : p.fits ≡ true → gathered (entry_names_in keys kinds) (node_entries_of node) ≡ []

module _ (limit : ℕ) (s keys kinds : List ℕ) (at total : ℕ) (t : Rows) (c : List ℕ) {id kind count a : ℕ} {u : Rows} {d : List ℕ} {p : Pass} where
  node_passed : (before : List Node) → node_head_at s true (map node_id before) at ≡ done (record { id = id; type = kind; count = count }) a → total ≡ node_total before
      → InstancesPassed limit s keys kinds id (kind * 2 + 1) count total a t c u d p → NodePassed limit s keys kinds at total id count t c u d p before
  unfolding node_at node_entries_of node_row wanted_kind entry_names_in
  node_passed before head counted i =
      let r : row_at (node_instance_at limit s true (node_total before)) count [] a ≡ done i.instances p.next = rw (← counted) i.read in
      record {
        node = record { id = id; type = kind; instances = i.instances };
        named = refl;
        read = then_in _ _ head (making_in _ _ r refl);
        sized = row-length _ count [] a i.read;
        rows = i.rows ∙ ap (filled t total) (sym (map-map node_row _ i.instances));
        children_are = i.children_are ∙ ap (written c total) (sym (map-map entry_children _ i.instances));
        fit = λ e. gathered-map (entry_names_in keys kinds) _ i.instances ∙ i.fit e;
      }

-- A loop over nodes.
module _ (limit : ℕ) (s keys kinds : List ℕ) (n at : ℕ) (t₀ : Rows) (c₀ : List ℕ) where
  abbrev node_faults : Node → List Fault
  node_faults x = gathered (entry_names_in keys kinds) (node_entries_of x)

  -- The nodes before have these IDs.
  pub record NodesWith (numbers : List ℕ) (t : Rows) (c : List ℕ) (fits : Bool) (total left place : ℕ) : Type 0 where
    pub before : List Node
    pub named : map node_id before ≡ numbers
    pub counted : total ≡ node_total before
    pub passing : Passing (node_at limit s true) node_rows node_children node_faults (row_at (node_at limit s true) n [] at) t₀ c₀ 0 t c total fits before left place

  pub with_begin : NodesWith [] t₀ c₀ true 0 n at
  with_begin = record { before = []; named = refl; counted = sym nodes_none; passing = passing_begin _ _ _ _ _ _ _ _ _ }

  module _ {numbers : List ℕ} {t : Rows} {c : List ℕ} {fits : Bool} {total left place : ℕ} (f : NodesWith numbers t c fits total left place) where
    pub with_next : {id kind count a : ℕ} {u : Rows} {d : List ℕ} {p : Pass} {both : Bool} → node_head_at s true numbers place ≡ done (record { id = id; type = kind; count = count }) a
        → InstancesPassed limit s keys kinds id (kind * 2 + 1) count total a t c u d p → 0 < left → both ≡ fits && p.fits
        → NodesWith (id ∷ numbers) u d both (total + count) (left - 1) p.next
    with_next {id} {kind} {count} {a} {u} {d} {p} head i l b =
        let q = node_passed limit s keys kinds place total t c f.before (ap (λ x. node_head_at s true x place) f.named ∙ head) f.counted i in
        let z : length (node_rows q.node) ≡ count = rows-length q.node ∙ q.sized in
        let w : length (node_children q.node) ≡ length (node_rows q.node) = length-map (node_entries_of q.node) entry_children ∙ sym (length-map (node_entries_of q.node) node_row) in
        record {
          before = q.node ∷ f.before;
          named = cc (q.named, f.named);
          counted = omega (arith, f.counted, q.sized, nodes_more q.node f.before);
          passing = passing_next _ _ _ _ f.passing l q.read q.rows q.children_are (omega (arith, z)) w b q.fit;
        }

    pub with_end : left ≤ 0 → {r : NodesPass} → total ≡ r.total → place ≡ r.next → fits ≡ r.fits → NodesPassed limit s keys kinds n at t₀ c₀ t c r
    with_end h {r} et en ef =
        let e = passing_end _ _ _ _ f.passing h in
        record {
          nodes = e.0;
          counted = omega (arith, et, e.5, rows_total e.0);
          read = e.1 ∙ ap (done e.0) en;
          rows = e.2 ∙ ap (filled t₀ 0) (sym (map-gathered node_row node_entries_of e.0));
          children_are = e.3 ∙ ap (written c₀ 0) (sym (map-gathered entry_children node_entries_of e.0));
          fit = λ z. gathered-gathered (entry_names_in keys kinds) node_entries_of e.0 ∙ e.4 (ef ∙ z);
        }

  -- The IDs of the nodes before are below `bound`.
  pub record Nodes (t : Rows) (c : List ℕ) (bound : ℕ) (fits : Bool) (total left place : ℕ) : Type 0 where
    pub numbers : List ℕ
    pub below : Below bound numbers
    pub nodes : NodesWith numbers t c fits total left place

  pub nodes_begin : Nodes t₀ c₀ 0 true 0 n at
  nodes_begin = record { numbers = []; below = below_nothing 0; nodes = with_begin }

  module _ {t : Rows} {c : List ℕ} {bound : ℕ} {fits : Bool} {total left place : ℕ} (f : Nodes t c bound fits total left place) where
    pub nodes_next : {h : HeadPass} {u : Rows} {d : List ℕ} {p : Pass} {both : Bool} {j : ℕ} → HeadPassed s bound place h
        → InstancesPassed limit s keys kinds h.id (h.kind * 2 + 1) h.count total (place + 4) t c u d p → 0 < left → both ≡ fits && p.fits → j ≡ h.id + 1
        → Nodes u d j both (total + h.count) (left - 1) p.next
    nodes_next {h} g i l b e =
        record { numbers = h.id ∷ f.numbers; below = below_put f.numbers h.id f.below g.rises refl e; nodes = with_next f.nodes (g.read f.numbers f.below) i l b }

    pub nodes_end : left ≤ 0 → {r : NodesPass} → total ≡ r.total → place ≡ r.next → fits ≡ r.fits → NodesPassed limit s keys kinds n at t₀ c₀ t c r
    nodes_end h et en ef = with_end f.nodes h et en ef

-- Tables that have the lengths that others have.
pub rows_passed : (limit : ℕ) (s keys kinds : List ℕ) (n at : ℕ) (t : Rows) (c : List ℕ) (b : Rows) (e : List ℕ) {u : Rows} {d : List ℕ} {p : NodesPass}
    → length b.keys ≡ length t.keys → length b.kinds ≡ length t.kinds → length b.places ≡ length t.places → length e ≡ length c
    → NodesPassed limit s keys kinds n at b e u d p → RowsPassed limit s keys kinds n at t c u d p
rows_passed limit s keys kinds n at t c b e k i p w q = record { base = record { rows = b; column = e; keys_sized = k; kinds_sized = i; places_sized = p; column_sized = w }; passed = q }

-- The nodes section.
pub section_passed : (limit : ℕ) (s keys kinds : List ℕ) (at : ℕ) (t : Rows) (c : List ℕ) {u : Rows} {d : List ℕ} {a n b : ℕ} {p : NodesPass} {r : SectionPass}
    → done tt a ≡ keyword_at s at node → done n b ≡ count_at s a 2 → RowsPassed limit s keys kinds n b t c u d p → r.nodes ≡ n → r.total ≡ p.total → r.next ≡ p.next → r.fits ≡ p.fits
    → SectionPassed limit s keys kinds at t c u d r
unfolding nodes_at
section_passed limit s keys kinds at t c {n = n} {b = b} {p = p} {r = r} k g o en et ex ef =
    let q = o.passed in
    record {
      base = o.base;
      nodes = q.nodes;
      listed = en ∙ sym (row-length (node_at limit s true) n [] b q.read);
      counted = et ∙ q.counted;
      read = then_in _ _ (sym k) (then_in _ _ (sym g) (q.read ∙ ap (done q.nodes) (sym ex)));
      rows = q.rows;
      children_are = q.children_are;
      fit = λ z. q.fit (sym ef ∙ z);
    }
