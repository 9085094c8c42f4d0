use Rattle.limits.specs.Classes.{large}
use Rattle.isolation.specs.Outcome.{isolate}
use Rattle.isolation.proofs.FoundLaws.{within_same, own_answered}
use Rattle.isolation.proofs.classes.isolate_large.Goals as goal

pub returns : goal.returns
unfolding isolate
returns c =
    let w = within_same c.find_large-f.result _ _ _ _ c.places-2-1.given c.unread-2-1.given c.find_large-f.ensures.rows_within in
    own_answered _ large _ _ _ c.find_large-f.ensures.unread_after (c.write_found.ensures w)
