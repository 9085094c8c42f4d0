-- The invariant: a number passed the test exactly where bad is 1.
use Rattle.cycles.specs.Order.{not_earlier}
use Rattle.cycles.proofs.OrderLaws.{Flagged}
use Rattle.cycles.proofs.BackwardOrder.row.Given as goal

abbrev pub invariant-loop-c : goal.invariant-loop-c
invariant-loop-c l = Flagged (not_earlier l.n l.i) l.row l.c-index l.bad
