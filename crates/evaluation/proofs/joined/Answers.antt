use Rattle.evaluation.proofs.ValueLaws.{joined_first, joined_later}
use Rattle.evaluation.proofs.joined.Goals as goal

pub returns-then-v : goal.returns-then-v
returns-then-v c = search joined_first

pub returns : goal.returns
returns c = search joined_later
