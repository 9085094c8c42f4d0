-- The invariant: a number passed the test exactly where bad is 1.
use Rattle.cycles.specs.Order.{not_later}
use Rattle.cycles.proofs.OrderLaws.{Flagged}
use Rattle.cycles.proofs.ForwardOrder.row.Given as goal

abbrev pub invariant-loop-c : goal.invariant-loop-c
invariant-loop-c l = Flagged (not_later l.i) l.row l.c-index l.bad
