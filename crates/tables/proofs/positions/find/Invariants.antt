-- The invariant: the places passed hold positions of other numbers.
use Rattle.tables.proofs.IndexedLaws.{Passed}
use Rattle.tables.proofs.positions.find.Given as goal

abbrev pub invariant-loop-at : goal.invariant-loop-at
invariant-loop-at l = Passed l.index l.table l.x l.at
