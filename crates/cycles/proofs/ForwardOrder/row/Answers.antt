use Rattle.std.proofs.Common.{arith}
use Rattle.cycles.proofs.OrderLaws.{flag_none, flag-set, flag_kept, flag_end, later, later-not}
use Rattle.cycles.proofs.ForwardOrder.row.Goals as goal
use Rattle.cycles.proofs.ForwardOrder.row.Goals.{then-c-i, else-c-i}

pub loop-c-init : goal.loop-c-init
loop-c-init c = flag_none _ _

pub loop-c-preserved : goal.loop-c-preserved
loop-c-preserved c =
    elim c.if-c-i.branch [
      | then-c-i w ↦ flag-set _ _ c.loop-c.invariant (later-not _ _ w.if-c-i.true) w.bad-is
      | else-c-i w ↦ flag_kept _ _ c.loop-c.invariant (later _ _ w.if-c-i.false) w.bad-is
    ]

pub returns : goal.returns
returns c = flag_end _ _ c.loop-c.invariant (omega arith)
