use mathlib.Core.Path.{refl, sym, ◌∙◌, ap}
use Rattle.expressions.proofs.OpeningLaws.{unsaid}
use Rattle.fields.specs.Views.{next_parsed}
use Rattle.node_pass.proofs.NamesLaws.{names_fit, names_read}
use Rattle.node_pass.proofs.names_pass.Goals as goal

pub returns-then-end-ne0 : goal.returns-then-end-ne0
returns-then-end-ne0 c =
    λ i z. names_fit _ _ _ _ _ _ _ (sym (ap next_parsed c.in-Next.is) ∙ c.captures_at-c.ensures) (c.captures_fit.ensures i c.if-captures_fit.true) (c.rules_fit-end.ensures i c.if-end-ne0.true)

pub returns-in-Next-d : goal.returns-in-Next-d
returns-in-Next-d c =
    λ i z. names_read _ _ _ _ _ _ _ (sym (ap next_parsed c.in-Next.is) ∙ c.captures_at-c.ensures) (sym (ap next_parsed c.in-Next-d.is) ∙ c.rules_at-d.ensures) refl refl

pub returns-in-Refused-d : goal.returns-in-Refused-d
returns-in-Refused-d c = λ i. unsaid

pub returns-in-Refused : goal.returns-in-Refused
returns-in-Refused c = λ i. unsaid
