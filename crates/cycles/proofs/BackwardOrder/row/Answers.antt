use Rattle.std.proofs.Common.{arith}
use Rattle.cycles.proofs.OrderLaws.{flag_none, flag-set, flag_kept, flag_end, ahead, ahead-not}
use Rattle.cycles.proofs.BackwardOrder.row.Goals as goal
use Rattle.cycles.proofs.BackwardOrder.row.Goals.{then-ahead-span, else-ahead-span}

pub loop-c-init : goal.loop-c-init
loop-c-init c = flag_none _ _

pub loop-c-preserved : goal.loop-c-preserved
loop-c-preserved c =
    elim c.if-ahead-span.branch [
      | then-ahead-span w ↦ flag-set _ _ c.loop-c.invariant (ahead-not _ _ _ c.requires c.ranges.n.fits (c.type_inv.row _).fits w.if-ahead-span.true) w.bad-is
      | else-ahead-span w ↦ flag_kept _ _ c.loop-c.invariant (ahead _ _ _ c.requires c.ranges.n.fits (c.type_inv.row _).fits w.if-ahead-span.false) w.bad-is
    ]

pub returns : goal.returns
returns c = flag_end _ _ c.loop-c.invariant (omega arith)
