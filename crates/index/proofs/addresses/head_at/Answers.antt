use mathlib.Core.Path.{sym, ◌∙◌, ap}
use Rattle.fields.specs.Views.{number_parsed}
use Rattle.registers.specs.Registers.{register_head_parsed}
use Rattle.index.proofs.Again.{head_is, register_head_rest, register_head_there, not_refused}
use Rattle.index.proofs.addresses.head_at.Goals as goal

pub returns-in-Head : goal.returns-in-Head
returns-in-Head c =
    λ ids h m. head_is _ _ ids
    (sym (ap number_parsed c.in-Number.is) ∙ c.number_at-i.ensures)
    (sym (ap register_head_parsed c.in-Head.is) ∙ c.register_rest_at-top.ensures)

pub returns-in-Refused-top : goal.returns-in-Refused-top
returns-in-Refused-top c =
    λ ids h m e. not_refused
    (sym (ap register_head_parsed c.in-Refused-top.is) ∙ c.register_rest_at-top.ensures)
    (register_head_rest _ _ ids (sym (ap number_parsed c.in-Number.is) ∙ c.number_at-i.ensures) e)

pub returns-in-Refused : goal.returns-in-Refused
returns-in-Refused c = λ ids h m. register_head_there _ _ ids (sym (ap number_parsed c.in-Refused.is) ∙ c.number_at-i.ensures)
