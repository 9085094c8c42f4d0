use Prim.Native.Nat.{◌≤◌}
use mathlib.Core.Path.{sym, subst}
use Rattle.limits.specs.Limits.{library_limits}
use Rattle.limits.proofs.LimitsLaws.{registers_within}
use Rattle.register_rows.proofs.registers_at.Goals as goal

pub section_at-requires : goal.section_at-requires
section_at-requires c = subst (λ x. x ≤ library_limits.register_instances) (sym c.register_instances.ensures) (registers_within _)

pub returns : goal.returns
returns c = rw (← c.register_instances.ensures) c.section_at.ensures
