use mathlib.Core.Path.{refl}
use borrow.Author.Rules.{rules}
use native.Mathlib.Omega.{arith}
use Rattle.expressions.proofs.HeadLaws.{open-laws, down_none, down_no, down_more}
use Rattle.expressions.proofs.+exact_at.Goals as goal

pub loop-left-init : goal.loop-left-init
loop-left-init t c = search (rules, open-laws)

pub overflow_sub-levels : goal.overflow_sub-levels
overflow_sub-levels t c = search (rules, open-laws)

pub exact_at-e-requires : goal.exact_at-e-requires
exact_at-e-requires t c = (omega arith, tt)

pub returns-in-Refused-e : goal.returns-in-Refused-e
returns-in-Refused-e t c = down_no _ _ _ c.loop-left.invariant.1 c.exact_at-e.ensures c.in-Refused-e.is c.loop-left-test.true refl

pub overflow_sub-left : goal.overflow_sub-left
overflow_sub-left t c = search (rules, open-laws)

pub loop-left-smaller : goal.loop-left-smaller
loop-left-smaller t c = search (rules, open-laws)

pub loop-left-preserved : goal.loop-left-preserved
loop-left-preserved t c =
    (c.loop-left.invariant.0, down_more _ _ _ c.loop-left.invariant.1 c.exact_at-e.ensures c.in-Next.is c.loop-left-test.true)

pub returns-after-loop-left : goal.returns-after-loop-left
returns-after-loop-left t c = down_none _ _ _ c.loop-left.invariant.1 c.loop-left-test.false refl

pub returns-in-Refused : goal.returns-in-Refused
returns-in-Refused t c = search (rules, open-laws)
