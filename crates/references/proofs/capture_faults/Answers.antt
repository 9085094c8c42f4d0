use mathlib.Core.Path.{sym, ◌∙◌, ap}
use native.Mathlib.Omega.{arith}
use Rattle.fields.specs.Views.{next_parsed}
use Rattle.references.proofs.CapturesLaws.{captures_none, capture_next}
use Rattle.references.proofs.JudgingLaws.{judging_begin, judging_next, judging_refused, judging_end}
use Rattle.references.proofs.capture_faults.Goals as goal

pub returns-then-s-at : goal.returns-then-s-at
returns-then-s-at c = λ i. captures_none _ _ _ _ (omega arith)

pub returns-then-s-at-2 : goal.returns-then-s-at-2
returns-then-s-at-2 c = λ i. captures_none _ _ _ _ (omega arith)

pub loop-left-init : goal.loop-left-init
loop-left-init c = (omega arith, λ i. judging_begin _ _ _ _)

pub returns-in-Refused : goal.returns-in-Refused
returns-in-Refused c =
    λ i. judging_refused _ _ (c.loop-left.invariant.1 i) c.loop-left-test.true
    (λ before a m e. sym (ap next_parsed c.in-Refused.is) ∙ c.capture_fault-f.ensures i before a m e)

pub loop-left-preserved : goal.loop-left-preserved
loop-left-preserved c = (
  omega (arith, c.loop-left.invariant.0, c.loop-left-test.true),
  λ i. judging_next _ _ (c.loop-left.invariant.1 i) c.loop-left-test.true
      (λ before a m e. capture_next _ _ before _ e (sym (ap next_parsed c.in-Next.is) ∙ c.capture_fault-f.ensures i before a m e)),
)

pub returns : goal.returns
returns c = λ i. judging_end _ _ (c.loop-left.invariant.1 i) c.loop-left-test.false
