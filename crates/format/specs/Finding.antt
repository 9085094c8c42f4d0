-- Which rule, root and child entry is meant: the first of its attention type or bit. The rules of the layout leave one at most.
use Rattle.std.specs.Prelude.{ℕ, Bool, List, [], ◌∷◌, eqb}
use Rattle.std.proofs.Math.Option.{Option, none, some}
use Rattle.format.specs.Lookup.{position, at, node_position}
use Rattle.format.specs.Tree.{Rule, Child, Root, NodeInstance, Chip}

-- The first element that passes the test, if there is one.
unfoldable pub first_of : {A : Type 0} → (A → Bool) → List A → List A
first_of test xs = at (position test xs) xs

-- The rule of a node instance for an attention type.
unfoldable pub rule_for : ℕ → NodeInstance → List Rule
rule_for attention i = first_of (λ r. eqb r.attention attention) i.rules

-- The root of an attention type.
unfoldable pub root_for : ℕ → Chip → List Root
root_for attention c = first_of (λ t. eqb t.attention attention) c.roots

-- The child entry of a bit.
unfoldable pub child_for : ℕ → NodeInstance → List Child
child_for bit i = first_of (λ k. eqb k.bit bit) i.children

-- The file position of the node instance that a child entry names.
unfoldable pub child_position : Chip → List Child → Option ℕ
child_position c [] = none
child_position c (k ∷ ks) = some (node_position c k.id k.number)
