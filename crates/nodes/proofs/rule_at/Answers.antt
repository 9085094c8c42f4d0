use mathlib.Core.Path.{refl}
use Rattle.limits.specs.Limits.{levels}
use Rattle.fields.proofs.Steps.{steps, forgetting, byte_then', twice, forgot_makes}
use Rattle.nodes.proofs.NodeLaws.{node_laws, rule_told}
use Rattle.nodes.proofs.rule_at.Goals as goal

pub returns-in-Next : goal.returns-in-Next
unfolding levels
returns-in-Next c before t =
    rule_told _ _ _ _ _ t
    (byte_then' _ _ _ c.new_attention_at-b.ensures c.in-Byte.is
    (twice _ _ _ (forgot_makes _ _ c.expression_at-e.ensures c.in-Next.is refl)))

pub returns-in-Refused-e : goal.returns-in-Refused-e
unfolding levels
returns-in-Refused-e c before = search (steps, forgetting, node_laws) depth 8

pub returns-in-Refused : goal.returns-in-Refused
unfolding levels
returns-in-Refused c before = search (steps, forgetting, node_laws) depth 8
