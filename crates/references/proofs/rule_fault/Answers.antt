use mathlib.Core.Path.{sym, ◌∙◌, ap}
use Rattle.fields.specs.Views.{byte_parsed}
use Rattle.references.proofs.PartsLaws.{rule_judged, rule_there}
use Rattle.references.proofs.rule_fault.Goals as goal

pub returns-in-Byte : goal.returns-in-Byte
returns-in-Byte c = λ i. rule_judged _ _ _ _ _ (sym (ap byte_parsed c.in-Byte.is) ∙ c.byte_at-b.ensures) (c.faults_at.ensures i)

pub returns-in-Refused : goal.returns-in-Refused
returns-in-Refused c = λ i before k m e. rule_there _ _ (sym (ap byte_parsed c.in-Refused.is) ∙ c.byte_at-b.ensures) before k m e
