use lib.ListN.{length}
use Rattle.isolation.specs.Ready.{both_fit}
use Rattle.isolation.specs.Outcome.{isolate}
use Rattle.isolation.proofs.FoundLaws.{within_same, answered}
use Rattle.isolation.proofs.answer.answer.Goals as goal

pub returns : goal.returns
unfolding isolate
returns c =
    let w = within_same c.find_by-f.result _ _ _ _ c.places-1.given c.unread-1.given c.find_by-f.ensures.rows_within in
    λ of x. answered (both_fit c.args.l.node_instances (length c.args.active.now) (length c.args.unread.now)) _ _ (c.find_by-f.ensures.unread_after of x) (c.write_found.ensures w)
