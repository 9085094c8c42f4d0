use Rattle.cycles.proofs.TableLaws.{looked_most, looked_first}
use Rattle.cycles.proofs.first_cycle.Goals as goal

pub invariant_of-children : goal.invariant_of-children
invariant_of-children c = record { few = rw c.looked_at.ensures (looked_most _) }

pub returns : goal.returns
returns c = looked_first _ _ c.looked_at.ensures c.first_from.ensures
