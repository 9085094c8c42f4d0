-- The invariant: the numbers before are entered.
use Rattle.std.proofs.Common.{◌<◌, length}
use Rattle.tables.specs.Indexed.{Indexed}
use Rattle.tables.proofs.positions.enter_from.Given as goal

abbrev pub invariant-loop-i : goal.invariant-loop-i
invariant-loop-i l = length l.table < 65536 → Indexed l.initial.index l.table l.from → Indexed l.index l.table l.i
