use mathlib.Core.Path.{sym, ◌∙◌, ap}
use Rattle.fields.specs.Views.{byte_parsed, number_parsed}
use Rattle.references.proofs.RootsLaws.{root_judged, root_there, root_named, root_typed}
use Rattle.references.proofs.roots.root_fault.Goals as goal

pub returns-in-Byte-n : goal.returns-in-Byte-n
returns-in-Byte-n c =
    λ es again p. root_judged _ _ (sym (ap byte_parsed c.in-Byte.is) ∙ c.byte_at-b.ensures) (sym (ap number_parsed c.in-Number.is) ∙ c.number_at-i.ensures) _ es (sym (ap byte_parsed c.in-Byte-n.is) ∙ c.byte_at-n.ensures) (c.rule_fault.ensures es again p)

pub returns-in-Refused-n : goal.returns-in-Refused-n
returns-in-Refused-n c =
    λ es again p before t m e. root_there _ _ (sym (ap byte_parsed c.in-Byte.is) ∙ c.byte_at-b.ensures) (sym (ap number_parsed c.in-Number.is) ∙ c.number_at-i.ensures) (sym (ap byte_parsed c.in-Refused-n.is) ∙ c.byte_at-n.ensures) before t m e

pub returns-in-Refused-i : goal.returns-in-Refused-i
returns-in-Refused-i c =
    λ es again p before t m e. root_named _ _ (sym (ap byte_parsed c.in-Byte.is) ∙ c.byte_at-b.ensures) (sym (ap number_parsed c.in-Refused-i.is) ∙ c.number_at-i.ensures) before t m e

pub returns-in-Refused : goal.returns-in-Refused
returns-in-Refused c = λ es again p before t m e. root_typed _ _ (sym (ap byte_parsed c.in-Refused.is) ∙ c.byte_at-b.ensures) before t m e
