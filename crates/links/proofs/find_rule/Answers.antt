use mathlib.Core.Path.{sym, ◌∙◌, ap}
use Rattle.fields.specs.Views.{byte_parsed, next_parsed}
use Rattle.index.proofs.Again.{not_refused, unmade}
use Rattle.index.proofs.PartsLaws.{rule_fields}
use Rattle.links.proofs.RowLaws.{going_begin, going_next, going_stop, going_end}
use Rattle.links.proofs.LinksLaws.{rule_none, rule_found, rule_expression, rule_other}
use Rattle.links.proofs.find_rule.Goals as goal

pub loop-left-init : goal.loop-left-init
loop-left-init c = going_begin _ _ _ _

pub returns-then-t-attention : goal.returns-then-t-attention
returns-then-t-attention c =
    going_stop _ _ c.loop-left.invariant c.loop-left-test.true
    (λ before r m e. rule_found _ _ (sym (ap byte_parsed c.in-Byte.is) ∙ c.byte_at-b.ensures) before r m e _ c.if-t-attention.true)

pub returns-in-Refused-e : goal.returns-in-Refused-e
returns-in-Refused-e c =
    going_stop _ _ c.loop-left.invariant c.loop-left-test.true
    (λ before r m e. unmade _ (sym (ap next_parsed c.in-Refused-e.is) ∙ c.expression_at-e.ensures)
    (rule_expression _ _ (sym (ap byte_parsed c.in-Byte.is) ∙ c.byte_at-b.ensures) before r m e))

pub returns-in-Refused : goal.returns-in-Refused
returns-in-Refused c =
    going_stop _ _ c.loop-left.invariant c.loop-left-test.true
    (λ before r m e. not_refused (sym (ap byte_parsed c.in-Refused.is) ∙ c.byte_at-b.ensures) (rule_fields _ _ before e).0)

pub loop-left-preserved : goal.loop-left-preserved
loop-left-preserved c =
    going_next _ _ c.loop-left.invariant c.loop-left-test.true _
    (λ before r m e. rule_other _ _ (sym (ap byte_parsed c.in-Byte.is) ∙ c.byte_at-b.ensures) before r m e
    _ c.if-t-attention.false (sym (ap next_parsed c.in-Next.is) ∙ c.expression_at-e.ensures))

pub returns : goal.returns
returns c = λ rs m e. rule_none _ ∙ going_end _ _ c.loop-left.invariant c.loop-left-test.false rs m e
