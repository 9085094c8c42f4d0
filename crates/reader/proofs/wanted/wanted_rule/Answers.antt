use Rattle.reader.proofs.WantedLaws.{rule_wanted}
use Rattle.reader.proofs.wanted.wanted_rule.Goals as goal

pub returns : goal.returns
returns c = λ of chip end k e v q p. rule_wanted of _ _ chip end v k e q p c.rule_place.ensures
