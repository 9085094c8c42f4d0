use mathlib.Core.List.{map}
use mathlib.Core.Path.{sym, ◌∙◌, ap}
use Rattle.fields.specs.Views.{element_parsed}
use Rattle.fields.proofs.SeenLaws.{id_rose, id_new, id_cut}
use Rattle.registers.specs.Registers.{register_id, register_element}
use Rattle.index.proofs.Again.{unmade}
use Rattle.register_rows.proofs.SectionLaws.{register_made, register_rest, register_cut, register_read}
use Rattle.register_rows.proofs.rising_register_at.Goals as goal

pub returns-in-Element : goal.returns-in-Element
returns-in-Element c = record {
  element_told = λ before w e. register_read _ _ _ before e (id_rose 3 _ _ c.in-Id.is (c.rising_id_at-i.ensures (map register_id before) w)) (sym (ap element_parsed c.in-Element.is) ∙ c.register_after-e.ensures.result_value);
  element_unless = λ before w e g m d. c.register_after-e.ensures.kinds_after g m (register_rest _ _ _ before e (id_new 3 _ _ c.in-Id.is (c.rising_id_at-i.ensures (map register_id before) w)) g m d);
}

pub returns-in-Refused-e : goal.returns-in-Refused-e
returns-in-Refused-e c = record {
  element_told = λ before w e. register_made _ _ _ before e register_element (id_new 3 _ _ c.in-Id.is (c.rising_id_at-i.ensures (map register_id before) w)) (sym (ap element_parsed c.in-Refused-e.is) ∙ c.register_after-e.ensures.result_value);
  element_unless = λ before w e g m d. c.register_after-e.ensures.kinds_after g m (register_rest _ _ _ before e (id_new 3 _ _ c.in-Id.is (c.rising_id_at-i.ensures (map register_id before) w)) g m d);
}

pub returns-in-Refused : goal.returns-in-Refused
returns-in-Refused c = record {
  element_told = λ before w e. register_cut _ _ _ before e register_element (id_cut 3 _ _ c.in-Refused.is (c.rising_id_at-i.ensures (map register_id before) w));
  element_unless = λ before w e g m d. unmade register_element (register_cut _ _ _ before e register_element (id_cut 3 _ _ c.in-Refused.is (c.rising_id_at-i.ensures (map register_id before) w))) d;
}
