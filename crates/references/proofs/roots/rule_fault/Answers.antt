use Rattle.references.proofs.RootsLaws.{root_ruled, root_unruled, root_absent}
use Rattle.references.proofs.roots.rule_fault.Goals as goal

pub returns-then-rule_place-ne0 : goal.returns-then-rule_place-ne0
returns-then-rule_place-ne0 c =
    λ es again p. root_ruled _ _ _ _ _ c.name_position-k.ensures es _ again p c.if-k-places.true c.rule_place.ensures _ _ c.if-rule_place-ne0.true

pub returns-else-rule_place-ne0 : goal.returns-else-rule_place-ne0
returns-else-rule_place-ne0 c =
    λ es again p. root_unruled _ _ _ _ _ c.name_position-k.ensures es _ again p c.if-k-places.true c.rule_place.ensures _ _ c.if-rule_place-ne0.false

pub returns-else-k-places : goal.returns-else-k-places
returns-else-k-places c = λ es again p. root_absent _ _ _ _ _ c.name_position-k.ensures es _ _ p c.if-k-places.false
