use Rattle.expressions.proofs.HeadLaws.{head-laws}
use Rattle.expressions.proofs.head_at.Goals as goal

pub returns-then-levels-eq0 : goal.returns-then-levels-eq0
returns-then-levels-eq0 c = search head-laws

pub returns-else-levels-eq0 : goal.returns-else-levels-eq0
returns-else-levels-eq0 c = search head-laws

pub returns-in-Refused : goal.returns-in-Refused
returns-in-Refused c = search head-laws
