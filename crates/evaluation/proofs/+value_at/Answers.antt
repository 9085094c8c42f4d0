use borrow.Author.Rules.{rules}
use native.Mathlib.Omega.{arith}
use Rattle.expressions.proofs.HeadLaws.{open_level}
use Rattle.expressions.proofs.OperandsLaws.{headless}
use Rattle.evaluation.proofs.ValueLaws.{value_head, value_more, value_end}
use Rattle.evaluation.proofs.+value_at.Goals as goal

pub loop-ahead-init : goal.loop-ahead-init
loop-ahead-init t c = (
  search (rules, open_level),
  λ j e m i. value_head _ _ _ _ _ _ (search (rules, open_level)) c.head_at-top.ensures c.in-Head.is c.arity-ahead.ensures (c.own_value-v.ensures j) i,
)

pub value_at-x-requires : goal.value_at-x-requires
value_at-x-requires t c = (omega arith, tt)

pub loop-ahead-preserved : goal.loop-ahead-preserved
loop-ahead-preserved t c = (
  c.loop-ahead.invariant.0,
  λ j e m i. value_more _ _ _ _ _ _ (c.loop-ahead.invariant.1 j e m i) c.loop-ahead-test.true (c.value_at-x.ensures j) c.joined-v.ensures,
)

pub returns-after-loop-ahead : goal.returns-after-loop-ahead
returns-after-loop-ahead t c = λ j e m i. value_end _ _ _ _ _ _ (c.loop-ahead.invariant.1 j e m i) c.loop-ahead-test.false

pub returns-in-Refused : goal.returns-in-Refused
returns-in-Refused t c = λ j e m i. headless _ _ _ c.head_at-top.ensures c.in-Refused.is i
