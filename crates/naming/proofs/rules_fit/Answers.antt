use mathlib.Core.Path.{refl}
use lib.ListN.{length-set}
use Rattle.expressions.proofs.OpeningLaws.{unsaid}
use Rattle.naming.proofs.FitRowsLaws.{rules_begin, rules_next, rules_end}
use Rattle.naming.proofs.rules_fit.Goals as goal

pub loop-left-init : goal.loop-left-init
loop-left-init c = (refl, λ i. rules_begin _ _ _ _ _ _ 6)

pub returns-then-s-place : goal.returns-then-s-place
returns-then-s-place c = λ i. unsaid

pub returns-then-a-lt1 : goal.returns-then-a-lt1
returns-then-a-lt1 c = λ i. unsaid

pub returns-then-a-gt5 : goal.returns-then-a-gt5
returns-then-a-gt5 c = λ i. unsaid

pub returns-then-seen-a-ne0 : goal.returns-then-seen-a-ne0
returns-then-seen-a-ne0 c = λ i. unsaid

pub returns-then-end-eq0 : goal.returns-then-end-eq0
returns-then-end-eq0 c = λ i. unsaid

pub loop-left-preserved : goal.loop-left-preserved
loop-left-preserved c = (
  rw length-set c.loop-left.invariant.0,
  λ i. rules_next (c.loop-left.invariant.1 i) c.loop-left-test.true c.loop-left.invariant.0 c.if-s-place.false c.if-a-lt1.false c.if-a-gt5.false c.if-seen-a-ne0.false (c.fit_at-end.ensures i c.if-end-eq0.false),
)

pub returns : goal.returns
returns c = λ i _. rules_end (c.loop-left.invariant.1 i) c.loop-left-test.false
