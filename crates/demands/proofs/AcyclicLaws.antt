-- The links of an accepted chip lead nowhere back: each is a child entry, and these make no cycle.
use Prim.Native.Nat.{ℕ}
use mathlib.Core.Bool.{true}
use mathlib.Core.List.{List, [], ◌∷◌}
use mathlib.Core.Path.{◌≡◌, ◌∙◌, ap}
use Rattle.limits.specs.Limits.{Limits}
use Rattle.graph.specs.Chains.{Graph, linked}
use Rattle.graph.specs.Paths.{Path, one, more}
use Rattle.graph.proofs.ChainsLaws.{linked_out}
use Rattle.format.specs.Cycles.{leads, child_edge, OnCycle}
use Rattle.format.specs.Lookup.{at, node_entries, node_named, node_position}
use Rattle.format.specs.References.{has_node}
use Rattle.format.specs.Rules.{all_children, Meets}
use Rattle.format.specs.Tree.{Chip}
use Rattle.format.proofs.EveryLaws.{every-gathered_out}
use Rattle.format.proofs.PositionsLaws.{every_at, some_one, some_at, position_at}
use Rattle.isolation.specs.ChipGraph.{chip_graph}
use Rattle.demands.specs.Active.{ChildOf}
use Rattle.demands.proofs.RowsLaws.{every_in, in_at}
use Rattle.demands.proofs.ActiveLaws.{child_words}

module _ {limits : Limits} (c : Chip) (m : Meets limits c) (attention : ℕ) (words read : List ℕ) where
  abbrev g : Graph
  g = chip_graph c attention words read

  -- A child entry is an edge of the graph of child entries.
  child-edge : (i b j : ℕ) → ChildOf c i b j → child_edge c i j ≡ true
  unfolding child_edge leads has_node node_position all_children
  child-edge i b j k =
      let n = k.child in
      let h = every_in _ k.entry.instance.children (every_at _ i (node_entries c) (every-gathered_out _ _ (node_entries c) m.present.children) k.stands) k.own in
      let r = position_at (node_named n.id n.number) (node_entries c) h in
      let w = in_at k.entry.instance.children k.own in
      let q : at j (node_entries c) ≡ r.0 ∷ [] = ap (λ x. at x (node_entries c)) k.means ∙ r.1 in
      rw (k.stands, q)
      (some_one _ k.entry ∙ some_one (leads k.entry) r.0
      ∙ some_at (λ x. node_named x.id x.number r.0) w.0 k.entry.instance.children w.1 r.2)

  link_edge : (i j : ℕ) → linked g i j ≡ true → child_edge c i j ≡ true
  link_edge i j e = let l = linked_out g i j e in child-edge i l.0 j ((child_words c m.unique i l.0 attention words read j).0 l.3)

  links_edges : {i j : ℕ} → Path (linked g) i j → Path (child_edge c) i j
  links_edges (one {i = i} {k = k} e) = one (link_edge i k e)
  links_edges (more {i = i} {j = j} e p) = more (link_edge i j e) (links_edges p)

  pub no_way_back : (i : ℕ) → Path (linked g) i i → ⊥
  unfolding OnCycle
  no_way_back i p = m.acyclic i (links_edges p)
