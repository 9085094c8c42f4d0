use Rattle.isolation.proofs.ActivityLaws.{entry-active}
use Rattle.isolation.proofs.ReachLaws.{entry_again}
use Rattle.isolation.proofs.reach.activity_at.Goals as goal

pub returns : goal.returns
returns c =
    λ i of chip end k e v q p.
    entry-active _ _ _ _ e _ (entry_again of _ (λ j. (c.type_inv.s j).fits) chip end v k e q) (c.wanted_rule-p.ensures of chip end k e v q p)
    c.active_at.ensures.value (c.active_at.ensures.value_2 i)
