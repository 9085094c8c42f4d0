use Rattle.std.proofs.Common.{◌/◌, length}
use Rattle.packing.proofs.BackwardLaws.{Backward}
use Rattle.packing.proofs.put_part.Given as goal

abbrev pub invariant-loop-i : goal.invariant-loop-i
invariant-loop-i l = Backward l.part 0 (length l.part / 16) l.initial.out l.at l.out l.place l.i l.near l.counts
