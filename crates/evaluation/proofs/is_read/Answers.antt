use lib.ListN.{get_or-eq_default}
use Rattle.evaluation.proofs.is_read.Goals as goal

pub returns : goal.returns
returns c = rw (get_or-eq_default c.args.read.now 0 c.if-k-read.false)
