use mathlib.Core.List.{[]}
use mathlib.Core.Path.{sym, ◌∙◌, ap}
use Rattle.fields.specs.Views.{next_parsed}
use Rattle.fields.proofs.SeenLaws.{tells_none}
use Rattle.nodes.specs.Nodes.{instance_head_parsed}
use Rattle.index.proofs.Again.{not_refused, unmade}
use Rattle.index.proofs.PartsLaws.{instance_parts}
use Rattle.links.proofs.PassedLaws.{captures_after, rules_after}
use Rattle.links.proofs.rule_place.Goals as goal

pub returns-in-Next : goal.returns-in-Next
returns-in-Next c =
    λ limit total before i m e.
    let r = rules_after _ _ (sym (ap instance_head_parsed c.in-Head.is) ∙ c.instance_head_at-top.ensures [] (tells_none 1)) limit total before i m e
    (sym (ap next_parsed c.in-Next.is) ∙ c.captures_at-c.ensures) in
    c.find_rule.ensures i.rules r.0 r.1

pub returns-in-Refused-c : goal.returns-in-Refused-c
returns-in-Refused-c c =
    λ limit total before i m e.
    let r = captures_after _ _ (sym (ap instance_head_parsed c.in-Head.is) ∙ c.instance_head_at-top.ensures [] (tells_none 1)) limit total before i m e in
    unmade _ (sym (ap next_parsed c.in-Refused-c.is) ∙ c.captures_at-c.ensures) r.1

pub returns-in-Refused : goal.returns-in-Refused
returns-in-Refused c =
    λ limit total before i m e. not_refused (sym (ap instance_head_parsed c.in-Refused.is) ∙ c.instance_head_at-top.ensures [] (tells_none 1)) (instance_parts _ _ limit total before e).read
