use mathlib.Core.Path.{sym, ◌∙◌, ap}
use Rattle.fields.specs.Views.{byte_parsed, number_parsed}
use Rattle.index.proofs.Again.{register_instance_again, register_instance_whole, register_instance_there}
use Rattle.index.proofs.addresses.instance_at.Goals as goal

pub returns-in-Number : goal.returns-in-Number
returns-in-Number c =
    λ limit total before i m. register_instance_again limit _ _ total _ before
    (sym (ap byte_parsed c.in-Byte.is) ∙ c.byte_at-b.ensures)
    (sym (ap number_parsed c.in-Number.is) ∙ c.address_at-x.ensures)

pub returns-in-Refused-x : goal.returns-in-Refused-x
returns-in-Refused-x c =
    λ limit total before i m. register_instance_whole limit _ _ total _ before
    (sym (ap byte_parsed c.in-Byte.is) ∙ c.byte_at-b.ensures)
    (sym (ap number_parsed c.in-Refused-x.is) ∙ c.address_at-x.ensures)

pub returns-in-Refused : goal.returns-in-Refused
returns-in-Refused c =
    λ limit total before i m. register_instance_there limit _ _ total _ before
    (sym (ap byte_parsed c.in-Refused.is) ∙ c.byte_at-b.ensures)
