use borrow.Author.Rules.{rules}
use Rattle.format.specs.Fields.{type_at}
use Rattle.format.specs.Parsed.{requiring}
use Rattle.fields.proofs.Steps.{steps}
use Rattle.fields.proofs.FieldLaws.{known-laws}
use Rattle.fields.proofs.type_at.Goals as goal

pub byte_at-b-requires : goal.byte_at-b-requires
unfolding type_at requiring
byte_at-b-requires c = search rules

pub enum_known-b : goal.enum_known-b
unfolding type_at requiring
enum_known-b c = search rules

pub returns-then-t-eq1 : goal.returns-then-t-eq1
unfolding type_at requiring
returns-then-t-eq1 c = search (steps, known-laws)

pub returns-then-t-eq2 : goal.returns-then-t-eq2
unfolding type_at requiring
returns-then-t-eq2 c = search (steps, known-laws)

pub enum_known-b-in-Refused-1 : goal.enum_known-b-in-Refused-1
unfolding type_at requiring
enum_known-b-in-Refused-1 c = search rules

pub returns-else-t-eq2 : goal.returns-else-t-eq2
unfolding type_at requiring
returns-else-t-eq2 c = search (steps, known-laws)

pub returns-in-Refused : goal.returns-in-Refused
unfolding type_at requiring
returns-in-Refused c = search (steps, known-laws)
