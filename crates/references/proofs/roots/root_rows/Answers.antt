use mathlib.Core.Path.{sym, ◌∙◌, ap}
use Rattle.fields.specs.Views.{next_parsed}
use Rattle.references.proofs.JudgingLaws.{judging_begin, judging_next, judging_refused, judging_end}
use Rattle.references.proofs.roots.root_rows.Goals as goal

pub loop-left-init : goal.loop-left-init
loop-left-init c = λ es again p. judging_begin _ _ _ _

pub returns-in-Refused : goal.returns-in-Refused
returns-in-Refused c =
    λ es again p. judging_refused _ _ (c.loop-left.invariant es again p) c.loop-left-test.true
    (λ before a m e. sym (ap next_parsed c.in-Refused.is) ∙ c.root_fault-f.ensures es again p before a m e)

pub loop-left-preserved : goal.loop-left-preserved
loop-left-preserved c =
    λ es again p. judging_next _ _ (c.loop-left.invariant es again p) c.loop-left-test.true
    (λ before a m e. sym (ap next_parsed c.in-Next.is) ∙ c.root_fault-f.ensures es again p before a m e)

pub returns : goal.returns
returns c = λ es again p. judging_end _ _ (c.loop-left.invariant es again p) c.loop-left-test.false
