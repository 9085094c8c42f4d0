use mathlib.Core.List.{[]}
use mathlib.Core.Path.{sym, ◌∙◌, ap}
use Rattle.format.proofs.ParsedLaws.{never}
use Rattle.fields.specs.Views.{next_parsed}
use Rattle.fields.proofs.SeenLaws.{tells_none}
use Rattle.nodes.specs.Nodes.{instance_head_parsed}
use Rattle.references.proofs.PartsLaws.{instance_captures_no, instance_rules_no, instance-children, instance-row, instance_there}
use Rattle.references.proofs.instance_faults.Goals as goal

pub returns-in-Next-d : goal.returns-in-Next-d
returns-in-Next-d c =
    let o = sym (ap instance_head_parsed c.in-Head.is) ∙ c.instance_head_at-top.ensures [] (tells_none 1) in record {
      result_value = λ j k limit total before i m e. instance-children _ _ _ _ _ _ o limit total before i m e
          (c.capture_faults-c.ensures j) (ap next_parsed c.in-Next.is)
          (c.rule_faults-d.ensures j) (ap next_parsed c.in-Next-d.is) (c.child_faults.ensures.result_value k);
      by_index = λ after r j k limit total before i m e. instance-row _ _ _ _ _ _ o limit total before i m e
          (c.capture_faults-c.ensures j) (ap next_parsed c.in-Next.is)
          (c.rule_faults-d.ensures j) (ap next_parsed c.in-Next-d.is) _ _ c.clear.ensures (c.child_faults.ensures.by_index after r k);
    }

pub returns-in-Refused-d : goal.returns-in-Refused-d
returns-in-Refused-d c = record {
  result_value = λ j k limit total before i m e. instance_rules_no _ _ _ _ _ _ (sym (ap instance_head_parsed c.in-Head.is) ∙ c.instance_head_at-top.ensures [] (tells_none 1)) limit total before i m e
      (c.capture_faults-c.ensures j) (ap next_parsed c.in-Next.is)
      (c.rule_faults-d.ensures j) (ap next_parsed c.in-Refused-d.is);
  by_index = λ after r j k limit total before i m e. never (ap next_parsed r);
}

pub returns-in-Refused-c : goal.returns-in-Refused-c
returns-in-Refused-c c = record {
  result_value = λ j k limit total before i m e. instance_captures_no _ _ _ _ _ _ (sym (ap instance_head_parsed c.in-Head.is) ∙ c.instance_head_at-top.ensures [] (tells_none 1)) limit total before i m e
      (c.capture_faults-c.ensures j) (ap next_parsed c.in-Refused-c.is);
  by_index = λ after r j k limit total before i m e. never (ap next_parsed r);
}

pub returns-in-Refused : goal.returns-in-Refused
returns-in-Refused c = record {
  result_value = λ j k limit total before i m e. instance_there _ _ (sym (ap instance_head_parsed c.in-Refused.is) ∙ c.instance_head_at-top.ensures [] (tells_none 1)) limit total before i m e;
  by_index = λ after r j k limit total before i m e. never (ap next_parsed r);
}
