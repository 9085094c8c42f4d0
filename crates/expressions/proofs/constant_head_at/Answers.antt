use Rattle.fields.proofs.Steps.{steps}
use Rattle.expressions.proofs.constant_head_at.Goals as goal

pub returns-in-Number : goal.returns-in-Number
returns-in-Number c = search steps

pub returns-in-Refused : goal.returns-in-Refused
returns-in-Refused c = search steps
