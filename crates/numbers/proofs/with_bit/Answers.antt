use native.Mathlib.Omega.{arith}
use Rattle.numbers.proofs.NextBitLaws.{with_machine, with_none}
use Rattle.numbers.proofs.with_bit.Goals as goal

pub returns-then-b-lt64 : goal.returns-then-b-lt64
returns-then-b-lt64 c = with_machine 64 _ _ (omega arith) c.if-b-lt64.true

pub returns-else-b-lt64 : goal.returns-else-b-lt64
returns-else-b-lt64 c = with_none 64 _ _ (omega arith) c.if-b-lt64.false
