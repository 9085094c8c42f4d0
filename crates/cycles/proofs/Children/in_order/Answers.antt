use Rattle.std.proofs.Common.{sym, ◌∙◌, arith}
use Rattle.cycles.proofs.OrderLaws.{passed_none, passed_row, row-not, row_short, passed_all}
use Rattle.cycles.proofs.Children.in_order.Goals as goal
use Rattle.cycles.proofs.Children.in_order.Goals.{then-self-end-via-then-self-end, then-self-end-via-else-self-end+then-not-row}

pub loop-i-init : goal.loop-i-init
loop-i-init g c = passed_none _ _

pub returns-then-self-end : goal.returns-then-self-end
returns-then-self-end g c =
    elim c.then-self-end.branch [
      | then-self-end-via-then-self-end w ↦ row_short _ _ _ _ c.loop-i-test.true w.if-self-end.true
      | then-self-end-via-else-self-end+then-not-row w ↦ row-not _ _ _ w.if-self-end.false _ c.loop-i-test.true (sym w.row.ensures ∙ w.if-not-row.true)
    ]

pub loop-i-preserved : goal.loop-i-preserved
loop-i-preserved g c = passed_row _ _ _ c.if-self-end.false c.loop-i.invariant (sym c.row.ensures ∙ c.if-not-row.false)

pub returns : goal.returns
returns g c = passed_all _ _ _ c.loop-i.invariant (omega arith)
