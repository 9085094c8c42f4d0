use mathlib.Core.Path.{refl}
use Rattle.nodes.specs.Nodes.{node_body_at}
use Rattle.fields.proofs.Steps.{forgot_then, forgot_stop}
use Rattle.nodes.proofs.node_body_at.Goals as goal

pub returns-in-Next-r : goal.returns-in-Next-r
unfolding node_body_at
returns-in-Next-r c =
    forgot_then _ _ _ c.captures_at-c.ensures c.in-Next.is (λ _. forgot_then _ _ _ c.rules_at-r.ensures c.in-Next-r.is (λ _. c.children_at.ensures))

pub returns-in-Refused-r : goal.returns-in-Refused-r
unfolding node_body_at
returns-in-Refused-r c =
    forgot_then _ _ _ c.captures_at-c.ensures c.in-Next.is (λ _. forgot_stop _ _ _ c.rules_at-r.ensures c.in-Refused-r.is refl)

pub returns-in-Refused : goal.returns-in-Refused
unfolding node_body_at
returns-in-Refused c = forgot_stop _ _ _ c.captures_at-c.ensures c.in-Refused.is refl
