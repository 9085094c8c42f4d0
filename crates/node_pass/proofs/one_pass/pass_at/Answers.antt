use Prim.Native.Nat.{◌≤◌}
use mathlib.Core.Path.{sym, subst}
use Rattle.limits.specs.Limits.{library_limits}
use Rattle.limits.proofs.LimitsLaws.{nodes_within}
use Rattle.node_pass.proofs.one_pass.pass_at.Goals as goal

pub section_pass-requires : goal.section_pass-requires
section_pass-requires c = subst (λ x. x ≤ library_limits.node_instances) (sym c.node_instances.ensures) (nodes_within _)

pub returns : goal.returns
returns c = rw (← c.node_instances.ensures) c.section_pass.ensures
