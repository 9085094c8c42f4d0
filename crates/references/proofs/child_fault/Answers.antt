use mathlib.Core.Path.{sym, ◌∙◌, ap}
use Rattle.format.proofs.ParsedLaws.{never}
use Rattle.fields.specs.Views.{byte_parsed, number_parsed, next_parsed}
use Rattle.index.proofs.PartsLaws.{child_fields, naming_all}
use Rattle.links.specs.Links.{child_number}
use Rattle.references.proofs.PartsLaws.{child_judged, child_there, child_named, child-bit}
use Rattle.references.proofs.child_fault.Goals as goal

pub returns-in-Byte-n : goal.returns-in-Byte-n
unfolding child_number
returns-in-Byte-n c =
    let o = sym (ap byte_parsed c.in-Byte.is) ∙ c.byte_at-b.ensures in
    let p = sym (ap number_parsed c.in-Number.is) ∙ c.number_at-i.ensures in
    let q = sym (ap byte_parsed c.in-Byte-n.is) ∙ c.byte_at-n.ensures in record {
      result_value = λ i. child_judged _ _ o p _ q (c.child_name_fault.ensures.result_value i);
      by_index = λ after e i before k m d.
          let w = naming_all (child_fields _ _ before d).0 o p q in
          rw (← w.0, ← w.1, ← w.2) (c.child_name_fault.ensures.by_index after e i);
    }

pub returns-in-Refused-n : goal.returns-in-Refused-n
returns-in-Refused-n c = record {
  result_value = λ i before k m e. child_there _ _ (sym (ap byte_parsed c.in-Byte.is) ∙ c.byte_at-b.ensures) (sym (ap number_parsed c.in-Number.is) ∙ c.number_at-i.ensures) (sym (ap byte_parsed c.in-Refused-n.is) ∙ c.byte_at-n.ensures) before k m e;
  by_index = λ after e i before k m d. never (ap next_parsed e);
}

pub returns-in-Refused-i : goal.returns-in-Refused-i
returns-in-Refused-i c = record {
  result_value = λ i before k m e. child_named _ _ (sym (ap byte_parsed c.in-Byte.is) ∙ c.byte_at-b.ensures) (sym (ap number_parsed c.in-Refused-i.is) ∙ c.number_at-i.ensures) before k m e;
  by_index = λ after e i before k m d. never (ap next_parsed e);
}

pub returns-in-Refused : goal.returns-in-Refused
returns-in-Refused c = record {
  result_value = λ i before k m e. child-bit _ _ (sym (ap byte_parsed c.in-Refused.is) ∙ c.byte_at-b.ensures) before k m e;
  by_index = λ after e i before k m d. never (ap next_parsed e);
}
