use Rattle.limits.specs.declared.LimitSet.{LimitSet}
use Rattle.limits.specs.Limits.{limits_of}
use Rattle.demands.proofs.Demand1.{refuses}
use Rattle.demands.proofs.Demand3.{isolates}
use Rattle.demands.proofs.isolate.Goals as goal

pub returns : goal.returns
unfolding limits_of
returns c = record {
  demand1 = refuses LimitSet.Library _ _ _ _ _ _ _ c.isolate.ensures;
  demand3 = isolates LimitSet.Library _ (λ i. (c.type_inv.file i).fits) _ _ _ _ _ _ c.isolate.ensures;
}
