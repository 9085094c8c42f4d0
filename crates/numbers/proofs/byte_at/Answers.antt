use Rattle.std.proofs.Common.{arith, refl}
use Rattle.numbers.proofs.FieldLaws.{number_cut, byte_whole}
use Rattle.numbers.proofs.byte_at.Goals as goal

pub returns-in_err-b : goal.returns-in_err-b
returns-in_err-b c = rw c.from_residual.ensures (number_cut _ _ refl (omega (arith, c.in_err-b.ensures.lookup)))

pub returns : goal.returns
returns c = let h = c.in_ok-b.ensures.lookup.3 in rw (h.1 0) (byte_whole _ _ h.0)
