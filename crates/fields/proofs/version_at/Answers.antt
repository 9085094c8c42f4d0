use Rattle.fields.proofs.Steps.{steps}
use Rattle.fields.proofs.FieldLaws.{one_laws}
use Rattle.fields.proofs.version_at.Goals as goal

pub returns-then-version-eq1 : goal.returns-then-version-eq1
returns-then-version-eq1 c = search (steps, one_laws) depth 8

pub returns-else-version-eq1 : goal.returns-else-version-eq1
returns-else-version-eq1 c = search (steps, one_laws) depth 8

pub returns-in-Refused : goal.returns-in-Refused
returns-in-Refused c = search (steps, one_laws) depth 8
