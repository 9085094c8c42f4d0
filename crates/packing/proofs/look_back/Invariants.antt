use Rattle.packing.proofs.NearLaws.{Gone}
use Rattle.packing.proofs.look_back.Given as goal

abbrev pub invariant-loop-i : goal.invariant-loop-i
invariant-loop-i l = Gone l.part 0 l.n l.i
