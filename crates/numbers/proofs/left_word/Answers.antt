use Rattle.numbers.proofs.BitsLaws.{left_machine, left_none}
use native.Mathlib.Omega.{arith}
use Rattle.numbers.proofs.left_word.Goals as goal

pub returns-then-k-lt64 : goal.returns-then-k-lt64
returns-then-k-lt64 c = left_machine 64 _ _ (omega arith) (omega arith)

pub returns-else-k-lt64 : goal.returns-else-k-lt64
returns-else-k-lt64 c = left_none 64 _ _ c.if-k-lt64.false
