use mathlib.Core.Path.{refl}
use Rattle.fields.proofs.Steps.{forgot_makes, forgot_makes_no}
use Rattle.nodes.proofs.NodeLaws.{instance_told, instance_stop}
use Rattle.nodes.proofs.node_instance_at.Goals as goal

pub returns-in-Next : goal.returns-in-Next
returns-in-Next c total before t e =
    instance_told _ _ _ _ _ e (c.instance_head_at-top.ensures _ t) c.in-Head.is (forgot_makes _ _ c.node_body_at-rest.ensures c.in-Next.is refl)

pub returns-in-Refused-rest : goal.returns-in-Refused-rest
returns-in-Refused-rest c total before t e =
    instance_told _ _ _ _ _ e (c.instance_head_at-top.ensures _ t) c.in-Head.is (forgot_makes_no _ _ c.node_body_at-rest.ensures c.in-Refused-rest.is refl)

pub returns-in-Refused : goal.returns-in-Refused
returns-in-Refused c total before t e = instance_stop _ _ _ _ _ e (c.instance_head_at-top.ensures _ t) c.in-Refused.is refl
