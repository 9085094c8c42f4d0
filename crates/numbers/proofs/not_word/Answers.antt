use Rattle.numbers.proofs.BitsLaws.{not_machine}
use native.Mathlib.Omega.{arith}
use Rattle.numbers.proofs.not_word.Goals as goal

pub returns : goal.returns
returns c = not_machine 64 _ (omega arith)
