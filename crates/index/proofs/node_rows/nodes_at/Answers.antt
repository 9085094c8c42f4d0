use Prim.Native.Nat.{◌≤◌}
use mathlib.Core.Path.{sym, subst}
use Rattle.limits.specs.Limits.{library_limits}
use Rattle.limits.proofs.LimitsLaws.{nodes_within}
use Rattle.index.proofs.node_rows.nodes_at.Goals as goal

pub section_at-requires : goal.section_at-requires
section_at-requires c = subst (λ x. x ≤ library_limits.node_instances) (sym c.node_instances.ensures) (nodes_within _)

pub returns : goal.returns
returns c = rw (← c.node_instances.ensures) c.section_at.ensures
