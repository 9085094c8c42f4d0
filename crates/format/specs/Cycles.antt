-- Refusal 14: "the child entries make a cycle". "Cycles are over all child entries, whatever the attention type or the readings."
use Rattle.std.specs.Prelude.{ℕ, suc, Bool, not, List, [], ◌∷◌, ◌++◌, length}
use Rattle.graph.specs.Paths.{Path, on_cycle}
use Rattle.format.specs.Lookup.{some, at, NodeEntry, node_entries, node_named}
use Rattle.format.specs.References.{Fault, unless}
use Rattle.format.specs.Tree.{Chip}

-- Some child entry of the node instance a names the node instance b.
unfoldable pub leads : NodeEntry → NodeEntry → Bool
leads a b = some (λ k. node_named k.id k.number b) a.instance.children

-- The same of the node instances at two file positions: an edge of the graph of child entries.
unfoldable pub child_edge : Chip → ℕ → ℕ → Bool
child_edge c i j = some (λ a. some (leads a) (at j (node_entries c))) (at i (node_entries c))

-- A node instance lies on a cycle: a path of child entries leads from it back to it. `on_cycle` computes this (`FaultsLaws.cycle_words`).
unfoldable pub OnCycle : Chip → ℕ → Type 0
OnCycle c i = Path (child_edge c) i i

unfoldable pub cycles_from : Chip → ℕ → List NodeEntry → List Fault
cycles_from c i [] = []
cycles_from c i (e ∷ es) =
    unless (not (on_cycle (length (node_entries c)) (child_edge c) i)) 14 e.instance.place ++ cycles_from c (suc i) es

-- The node instances that lie on a cycle, in file order: 14 at the number byte of each.
unfoldable pub cycle_faults : Chip → List Fault
cycle_faults c = cycles_from c 0 (node_entries c)
