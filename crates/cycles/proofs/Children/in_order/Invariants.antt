-- The invariant: no number in the rows passed is out of order.
use Rattle.cycles.proofs.OrderLaws.{Passed}
use Rattle.cycles.proofs.Children.in_order.Given as goal

abbrev pub invariant-loop-i : goal.invariant-loop-i
invariant-loop-i g l = Passed (g.O.Order.wrong l.self.size) l.self.table.now l.i
