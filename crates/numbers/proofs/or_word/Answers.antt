use Rattle.numbers.proofs.BitsLaws.{or_machine}
use native.Mathlib.Omega.{arith}
use Rattle.numbers.proofs.or_word.Goals as goal

pub returns : goal.returns
returns c = or_machine 64 _ _ (omega arith) (omega arith)
