-- The invariant: the numbers so far rise, and those that are left decide; with the rows of these the tables are what they are to be.
use Rattle.index.specs.Rows.{pair}
use Rattle.register_rows.proofs.RisingLaws.{Risen}
use Rattle.register_rows.proofs.rising_at.Given as goal

abbrev pub invariant-loop-left : goal.invariant-loop-left
invariant-loop-left l =
    Risen l.limit l.s l.at l.kind l.id l.code l.count l.total (pair l.initial.keys l.initial.kinds) l.size l.keys l.kinds l.bound l.place l.k l.left

abbrev pub decreases-loop-left : goal.decreases-loop-left
decreases-loop-left l = l.left
