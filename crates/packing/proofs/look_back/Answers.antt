use Rattle.std.proofs.Common.{arith}
use Rattle.packing.proofs.NearLaws.{gone_none, gone_next, near_found, near_none}
use Rattle.packing.proofs.look_back.Goals as goal

pub loop-i-init : goal.loop-i-init
loop-i-init c = gone_none _ _ _

pub returns-then-r-eq1 : goal.returns-then-r-eq1
returns-then-r-eq1 c = near_found _ _ _ _ c.loop-i.invariant (omega arith) (omega arith) (omega arith) c.record_at-r.ensures c.if-r-eq1.true (omega arith)

pub loop-i-preserved : goal.loop-i-preserved
loop-i-preserved c = gone_next _ _ _ _ c.loop-i.invariant (omega arith) (omega arith) (omega arith) c.record_at-r.ensures c.if-r-eq1.false

pub returns : goal.returns
returns c = near_none _ _ _ _ c.loop-i.invariant (omega arith)
