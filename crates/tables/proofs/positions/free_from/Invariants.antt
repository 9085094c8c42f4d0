-- The invariant: the places passed hold positions before p.
use Rattle.tables.specs.Indexed.{TakenFrom}
use Rattle.tables.proofs.positions.free_from.Given as goal

abbrev pub invariant-loop-at : goal.invariant-loop-at
invariant-loop-at l = TakenFrom l.index l.from l.at l.p
