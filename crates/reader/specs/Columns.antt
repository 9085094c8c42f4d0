-- What isolation needs of an accepted file for a wanted attention type, by the tree alone.
use Rattle.std.specs.Prelude.{ℕ, List, [], ◌∷◌, map}
use Rattle.std.proofs.Math.Option.{Option, none, some}
use Rattle.graph.specs.Chains.{below}
use Rattle.format.specs.Finding.{child_for, child_position}
use Rattle.format.specs.Lookup.{gathered, node_entries, node_position}
use Rattle.format.specs.Tree.{Rule, Root, NodeInstance, Chip}

-- The place of a rule's expression; 0 where there is no rule.
unfoldable pub expression_place : List Rule → ℕ
expression_place [] = 0
expression_place (r ∷ rs) = r.place

-- The place of each node instance.
abbrev pub place_column : Chip → List ℕ
place_column c = map (λ e. e.instance.place) (node_entries c)

-- A position, or 65,535 for none: no position of a node instance is as large.
unfoldable pub position_or : Option ℕ → ℕ
position_or none = 0xFFFF
position_or (some k) = k

-- 64 places for a node instance: the position of the node instance that each bit's child entry names.
unfoldable pub child_places : Chip → NodeInstance → List ℕ
child_places c i = map (λ b. position_or (child_position c (child_for b i))) (below 64)

-- Those of each node instance.
abbrev pub child_column : Chip → List ℕ
child_column c = gathered (λ e. child_places c e.instance) (node_entries c)

-- The position of the node instance that a root names; 65,535 where there is no root.
unfoldable pub root_place : Chip → List Root → ℕ
root_place c [] = 0xFFFF
root_place c (t ∷ ts) = node_position c t.id t.number
