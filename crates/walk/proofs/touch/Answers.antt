use native.Mathlib.Omega.{arith}
use Rattle.walk.proofs.TouchLaws.{outside, known, fresh}
use Rattle.walk.proofs.WordsLaws.{words_touched}
use Rattle.walk.proofs.touch.Goals as goal

pub returns-then-n-c : goal.returns-then-n-c
returns-then-n-c c = record {
  m_after = outside _ _ _ _ c.child_at-c.ensures c.if-n-c.true;
  words_after = λ e. e;
}

pub returns-then-m-c-ne0 : goal.returns-then-m-c-ne0
returns-then-m-c-ne0 c = record {
  m_after = known _ _ _ _ c.child_at-c.ensures c.if-n-c.false c.if-m-c-ne0.true;
  words_after = λ e. e;
}

pub returns : goal.returns
returns c = record {
  m_after = fresh _ _ _ _ c.child_at-c.ensures c.if-n-c.false c.if-m-c-ne0.false;
  words_after = λ e. words_touched _ _ c.requires.1 e _ (omega arith) c.with_bit-x.ensures;
}
