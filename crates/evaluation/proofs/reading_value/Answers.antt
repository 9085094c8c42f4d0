use native.Mathlib.Omega.{arith}
use Rattle.evaluation.proofs.ValueLaws.{own_read, own_unread}
use Rattle.evaluation.proofs.reading_value.Goals as goal

pub returns-then-is_read : goal.returns-then-is_read
returns-then-is_read c = λ i.
    own_read _ _ _ _ _ _ _ (c.find_name-k.ensures i) c.entry-word.ensures (omega arith) c.is_read.ensures c.if-is_read.true

pub returns : goal.returns
returns c = λ i.
    own_unread _ _ _ _ _ _ _ (c.find_name-k.ensures i) c.entry-word.ensures (omega arith) c.is_read.ensures c.if-is_read.false
