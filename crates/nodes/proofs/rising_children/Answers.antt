use native.Mathlib.Omega.{arith}
use Rattle.expressions.proofs.OpeningLaws.{unsaid}
use Rattle.nodes.proofs.NodeLaws.{rising_first, rising_child, rising_all}
use Rattle.nodes.proofs.rising_children.Goals as goal

pub returns-then-s-at : goal.returns-then-s-at
returns-then-s-at c = unsaid

pub returns-then-s-at-2 : goal.returns-then-s-at-2
returns-then-s-at-2 c = unsaid

pub loop-left-init : goal.loop-left-init
loop-left-init c = rising_first _ _ _ c.if-s-at.false c.if-s-at-2.false

pub bounds-s-place : goal.bounds-s-place
bounds-s-place c = omega (arith, c.loop-left.invariant.there, c.loop-left-test.true)

pub returns-then-b-bound : goal.returns-then-b-bound
returns-then-b-bound c = unsaid

pub returns-then-b-ge64 : goal.returns-then-b-ge64
returns-then-b-ge64 c = unsaid

pub overflow_add-place : goal.overflow_add-place
overflow_add-place c =
    omega (arith, c.loop-left.invariant.there, c.loop-left-test.true)

pub loop-left-preserved : goal.loop-left-preserved
loop-left-preserved c =
    rising_child c.loop-left.invariant c.loop-left-test.true c.if-b-bound.false c.if-b-ge64.false

pub returns : goal.returns
returns c = λ _. rising_all c.loop-left.invariant c.loop-left-test.false
