use Rattle.std.proofs.Common.{inl, inr}
use Rattle.tables.proofs.IndexedLaws.{found_none, found_here}
use Rattle.tables.proofs.positions.find.Goals as goal
use Rattle.tables.proofs.positions.find.Goals.{then-h-eq0-via-then-h-eq0, then-h-eq0-via-else-h-eq0+then-table-h}

pub returns-then-h-eq0 : goal.returns-then-h-eq0
returns-then-h-eq0 c = λ i.
    elim c.then-h-eq0.branch [
      | then-h-eq0-via-then-h-eq0 w ↦ found_none _ _ _ c.loop-at.invariant c.loop-at-test.true i (inl w.if-h-eq0.true)
      | then-h-eq0-via-else-h-eq0+then-table-h w ↦ found_none _ _ _ c.loop-at.invariant c.loop-at-test.true i (inr w.if-table-h.true)
    ]

pub returns-then-table-h-2 : goal.returns-then-table-h-2
returns-then-table-h-2 c = λ i.
    found_here _ _ _ c.loop-at.invariant c.loop-at-test.true i c.if-h-eq0.false c.if-table-h.false c.if-table-h-2.true
