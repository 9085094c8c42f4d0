use Rattle.fields.proofs.Steps.{steps}
use Rattle.expressions.proofs.right_head_at.Goals as goal

pub returns-in-Byte : goal.returns-in-Byte
returns-in-Byte c = search steps

pub returns-in-Refused : goal.returns-in-Refused
returns-in-Refused c = search steps
