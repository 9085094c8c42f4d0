use Rattle.fields.proofs.FieldLaws.{field_laws}
use Rattle.fields.proofs.number_at.Goals as goal

pub returns-in-Some : goal.returns-in-Some
returns-in-Some c = search (field_laws, c.in-Some.ensures)

pub returns-in-None : goal.returns-in-None
returns-in-None c = search (field_laws, c.in-None.ensures)
