use Rattle.numbers.proofs.BitsLaws.{and_machine}
use native.Mathlib.Omega.{arith}
use Rattle.numbers.proofs.and_word.Goals as goal

pub returns : goal.returns
returns c = and_machine 64 _ _ (omega arith) (omega arith)
