use native.Mathlib.Omega.{arith}
use Rattle.numbers.proofs.NextBitLaws.{next_in, without_machine, without_none}
use Rattle.numbers.proofs.without_next.Goals as goal

pub overflow_shr-result : goal.overflow_shr-result
overflow_shr-result c = rw c.next_bit.ensures (next_in 64 _ (omega arith) c.if-x-eq0.false)

pub returns-then-x-eq0 : goal.returns-then-x-eq0
returns-then-x-eq0 c = without_none 64 _ c.if-x-eq0.true

pub returns-else-x-eq0 : goal.returns-else-x-eq0
returns-else-x-eq0 c = rw c.next_bit.ensures (without_machine 64 _ (omega arith) c.if-x-eq0.false)
