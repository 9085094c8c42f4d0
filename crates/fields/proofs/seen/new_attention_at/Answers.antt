use Rattle.fields.proofs.Steps.{steps}
use Rattle.fields.proofs.SeenLaws.{seen-laws}
use Rattle.fields.proofs.seen.new_attention_at.Goals as goal

pub returns-then-is_marked : goal.returns-then-is_marked
returns-then-is_marked c = search (steps, seen-laws) depth 8

pub returns-else-is_marked : goal.returns-else-is_marked
returns-else-is_marked c = search (steps, seen-laws) depth 8

pub returns-in-Refused : goal.returns-in-Refused
returns-in-Refused c = search (steps, seen-laws) depth 8
