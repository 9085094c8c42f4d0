-- The invariant: the bytes before are copied, and the output is as long as it was.
use Rattle.std.proofs.Common.{◌≡◌, drop, length}
use lib.Seq.{sets}
use Rattle.writer.proofs.copy.Given as goal

abbrev pub invariant-loop-i : goal.invariant-loop-i
invariant-loop-i l = (sets l.out l.i (drop l.i l.bytes) ≡ sets l.initial.out 0 l.bytes) × (length l.out ≡ length l.initial.out)
