use mathlib.Core.Path.{sym, ◌∙◌, ap}
use Rattle.fields.specs.Views.{byte_parsed, number_parsed}
use Rattle.references.proofs.PartsLaws.{capture_judged, capture_there, capture_named}
use Rattle.references.proofs.capture_fault.Goals as goal

pub returns-in-Byte : goal.returns-in-Byte
returns-in-Byte c = λ i. capture_judged _ _ _ _ (sym (ap number_parsed c.in-Number.is) ∙ c.number_at-i.ensures) (sym (ap byte_parsed c.in-Byte.is) ∙ c.byte_at-n.ensures) (c.capture_fault.ensures i)

pub returns-in-Refused-n : goal.returns-in-Refused-n
returns-in-Refused-n c = λ i before k m e. capture_there _ _ (sym (ap number_parsed c.in-Number.is) ∙ c.number_at-i.ensures) (sym (ap byte_parsed c.in-Refused-n.is) ∙ c.byte_at-n.ensures) before k m e

pub returns-in-Refused : goal.returns-in-Refused
returns-in-Refused c = λ i before k m e. capture_named _ _ (sym (ap number_parsed c.in-Refused.is) ∙ c.number_at-i.ensures) before k m e
