use mathlib.Core.Path.{sym, ◌∙◌, ap}
use Rattle.fields.specs.Views.{next_parsed}
use Rattle.references.proofs.JudgingLaws.{judging_begin, judging_next, judging_refused, judging_end}
use Rattle.references.proofs.rule_faults.Goals as goal

pub loop-left-init : goal.loop-left-init
loop-left-init c = λ i. judging_begin _ _ _ _

pub returns-in-Refused : goal.returns-in-Refused
returns-in-Refused c =
    λ i. judging_refused _ _ (c.loop-left.invariant i) c.loop-left-test.true
    (λ before a m e. sym (ap next_parsed c.in-Refused.is) ∙ c.rule_fault-f.ensures i before a m e)

pub loop-left-preserved : goal.loop-left-preserved
loop-left-preserved c =
    λ i. judging_next _ _ (c.loop-left.invariant i) c.loop-left-test.true
    (λ before a m e. sym (ap next_parsed c.in-Next.is) ∙ c.rule_fault-f.ensures i before a m e)

pub returns : goal.returns
returns c = λ i. judging_end _ _ (c.loop-left.invariant i) c.loop-left-test.false
