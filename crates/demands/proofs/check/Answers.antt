use Rattle.limits.specs.declared.LimitSet.{LimitSet}
use Rattle.limits.specs.Limits.{limits_of}
use Rattle.demands.proofs.Demand2.{checks}
use Rattle.demands.proofs.check.Goals as goal

pub returns : goal.returns
unfolding limits_of
returns c = checks LimitSet.Library _ (λ i. (c.type_inv.file i).fits) _ c.check.ensures
