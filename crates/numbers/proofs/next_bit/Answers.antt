use native.Mathlib.Omega.{arith}
use lib.Count.{leading_le}
use Rattle.numbers.proofs.NextBitLaws.{next_machine}
use Rattle.numbers.proofs.next_bit.Goals as goal

pub overflow_cast-result : goal.overflow_cast-result
overflow_cast-result c = omega (arith, leading_le 64 c.args.x)

pub returns : goal.returns
returns c = next_machine 64 _ (omega arith)
