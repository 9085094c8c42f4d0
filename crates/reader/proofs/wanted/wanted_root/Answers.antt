use Rattle.reader.proofs.WantedLaws.{root_wanted}
use Rattle.reader.proofs.wanted.wanted_root.Goals as goal

pub returns : goal.returns
returns c = λ of chip end v r e. root_wanted of _ (λ i. (c.type_inv.s i).fits) _ chip end v _ _ r e c.root_position.ensures
