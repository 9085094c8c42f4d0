use Rattle.unpacking.proofs.LoopLaws.{Going}
use Rattle.unpacking.proofs.put_run.Given as goal

abbrev pub invariant-loop-count : goal.invariant-loop-count
invariant-loop-count l = Going l.s l.at l.initial.left l.initial.out l.to l.out l.place l.left l.count
