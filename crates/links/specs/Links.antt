-- What node instances lead to: the rule of each for an attention type, and the children of each.
use Rattle.std.specs.Prelude.{ℕ, ◌+◌, ◌%◌, ◌<◌, cond, List, [], ◌∷◌, map, eqb, set, replicate}
use Rattle.std.proofs.Math.Option.{Option, none, some}
use Rattle.format.specs.Rules.{Every, Distinct}
use Rattle.format.specs.Tree.{Rule, Child, NodeInstance}
use Rattle.tables.specs.Faults.{position_in}

-- The place of the expression of the first rule for an attention type; 0 where there is none.
unfoldable pub rule_place : ℕ → List Rule → ℕ
rule_place attention [] = 0
rule_place attention (r ∷ rs) = cond (eqb r.attention attention) r.place (rule_place attention rs)

-- What a table of children holds for a child: the position of the node instance that it names among the keys.
unfoldable pub child_number : List ℕ → Child → ℕ
child_number nodes k = position_in nodes k.id k.number % 0x10000

-- A table after some children were written to it, each at its bit counted from a place on.
unfoldable pub children_put : List ℕ → List ℕ → ℕ → List Child → List ℕ
children_put nodes table at [] = table
children_put nodes table at (k ∷ ks) = children_put nodes (set table (at + k.bit) (child_number nodes k)) at ks

-- So many places without a child.
unfoldable pub childless : ℕ → List ℕ
childless n = replicate n 0xFFFF

-- The 64 places of a node instance in a table of children.
unfoldable pub child_row : List ℕ → NodeInstance → List ℕ
child_row nodes i = children_put nodes (childless 64) 0 i.children

-- The position of the node instance that a child names, if there is a child.
unfoldable pub child_in : List ℕ → List Child → Option ℕ
child_in nodes [] = none
child_in nodes (k ∷ ks) = some (position_in nodes k.id k.number)

-- A node instance has one child for a bit at most, and each names one of so many node instances.
pub record ChildrenFit (nodes : List ℕ) (size : ℕ) (i : NodeInstance) : Type 0 where
  pub unique : Distinct (map (λ k. k.bit) i.children)
  pub present : Every (λ k. position_in nodes k.id k.number < size) i.children
