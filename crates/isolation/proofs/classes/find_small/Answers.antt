use Rattle.limits.specs.Classes.{small}
use Rattle.isolation.proofs.FoundLaws.{lent_found}
use Rattle.isolation.proofs.classes.find_small.Goals as goal

pub returns : goal.returns
returns c = record {
  unread_after = lent_found _ small c.args.places.now _ _ _ _ c.find_in.ensures.unread_after;
  rows_within = c.find_in.ensures.rows_within;
}
