use mathlib.Core.Path.{sym, ◌∙◌, ap}
use Rattle.fields.specs.Views.{number_parsed}
use Rattle.registers.specs.Registers.{register_element}
use Rattle.index.proofs.Again.{unmade}
use Rattle.register_rows.proofs.SectionLaws.{id_told, register_made, register_rest, register_cut}
use Rattle.register_rows.proofs.register_at.Goals as goal

pub returns-in-Number : goal.returns-in-Number
returns-in-Number c =
    let g = sym (ap number_parsed c.in-Number.is) in record {
      result_value = λ x before k e. register_made _ _ _ before e register_element (g ∙ id_told _ _ _ k (c.register_id_at-i.ensures x)) c.register_after.ensures.result_value;
      kinds_after = λ x before k e b m d. c.register_after.ensures.kinds_after b m (register_rest _ _ _ before e (g ∙ id_told _ _ _ k (c.register_id_at-i.ensures x)) b m d);
    }

pub returns-in-Refused : goal.returns-in-Refused
returns-in-Refused c =
    let g = sym (ap number_parsed c.in-Refused.is) in record {
      result_value = λ x before k e. register_cut _ _ _ before e register_element (g ∙ id_told _ _ _ k (c.register_id_at-i.ensures x));
      kinds_after = λ x before k e b m d. unmade register_element (register_cut _ _ _ before e register_element (g ∙ id_told _ _ _ k (c.register_id_at-i.ensures x))) d;
    }
