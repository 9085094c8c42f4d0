-- The faults of 12 and 13 by the tables of a file: the keys and kinds of the register instances, and the keys of the node instances.
use Rattle.std.specs.Prelude.{ℕ, Bool, List, ◌++◌}
use Rattle.format.specs.Lookup.{some, at, gathered, NodeEntry}
use Rattle.format.specs.References.{Fault, unless, has_rule}
use Rattle.format.specs.Tree.{Child, NodeInstance, Root}
use Rattle.tables.specs.Faults.{position_in, present, capture_faults_in, rule_faults_in}
use Rattle.tables.specs.Kinds.{wanted_kind}

-- A child that is absent.
unfoldable pub child_faults_in : List ℕ → Child → List Fault
child_faults_in nodes k = unless (present nodes k.id k.number) 12 k.place

-- All faults of a node instance, in byte order.
unfoldable pub instance_faults_in : List ℕ → List ℕ → List ℕ → ℕ → NodeInstance → List Fault
instance_faults_in keys kinds nodes kind i =
    gathered (capture_faults_in keys kinds) i.captures
    ++ (gathered (rule_faults_in keys kinds kind) i.rules ++ gathered (child_faults_in nodes) i.children)

unfoldable pub entry_faults_in : List ℕ → List ℕ → List ℕ → NodeEntry → List Fault
entry_faults_in keys kinds nodes e = instance_faults_in keys kinds nodes (wanted_kind e.type) e.instance

-- The node instance of this name, found by the keys, has a rule for the attention type.
unfoldable pub ruled : List ℕ → List NodeEntry → ℕ → ℕ → ℕ → Bool
ruled nodes es attention id number = some (λ e. has_rule attention e.instance) (at (position_in nodes id number) es)

-- A root whose node instance is absent or has no rule for the root's attention type.
unfoldable pub root_faults_in : List ℕ → List NodeEntry → Root → List Fault
root_faults_in nodes es t = unless (ruled nodes es t.attention t.id t.number) 12 t.place
