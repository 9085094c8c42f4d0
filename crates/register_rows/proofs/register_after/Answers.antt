use mathlib.Core.Path.{refl, sym, ◌∙◌, ap}
use Rattle.fields.proofs.Steps.{twice}
use Rattle.fields.proofs.RowLaws.{row_counted, row_missed}
use Rattle.registers.specs.Registers.{register_head_parsed, register_element, register_after}
use Rattle.registers.proofs.RegisterLaws.{head_then, head_stop}
use Rattle.index.proofs.Again.{unmade}
use Rattle.register_rows.proofs.SectionLaws.{after_filled}
use Rattle.register_rows.proofs.register_after.Goals as goal

pub returns-in-Next : goal.returns-in-Next
unfolding register_after
returns-in-Next c = record {
  result_value = head_then _ _ _ c.register_rest_at-top.ensures c.in-Head.is (twice _ _ _ (row_counted _ _ _ _ c.instances_at-rest.ensures.result_value c.in-Next.is refl));
  kinds_after = after_filled _ _ _ _ _ _ (sym (ap register_head_parsed c.in-Head.is) ∙ c.register_rest_at-top.ensures) c.instances_at-rest.ensures.kinds_after;
}

pub returns-in-Refused-rest : goal.returns-in-Refused-rest
unfolding register_after
returns-in-Refused-rest c =
    let e = head_then register_element _ _ c.register_rest_at-top.ensures c.in-Head.is (twice _ _ _ (row_missed _ _ _ _ c.instances_at-rest.ensures.result_value c.in-Refused-rest.is refl)) in
    record {
      result_value = e;
      kinds_after = λ g m d. unmade register_element e d;
    }

pub returns-in-Refused : goal.returns-in-Refused
unfolding register_after
returns-in-Refused c =
    let e = head_stop register_element _ _ c.register_rest_at-top.ensures c.in-Refused.is refl in
    record {
      result_value = e;
      kinds_after = λ g m d. unmade register_element e d;
    }
