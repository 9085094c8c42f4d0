use borrow.Author.Rules.{rules}
use Rattle.format.specs.Fields.{flags_at}
use Rattle.format.specs.Parsed.{requiring}
use Rattle.fields.proofs.Steps.{steps}
use Rattle.fields.proofs.FieldLaws.{known-laws}
use Rattle.fields.proofs.flags_at.Goals as goal

pub byte_at-b-requires : goal.byte_at-b-requires
unfolding flags_at requiring
byte_at-b-requires c = search rules

pub enum_known-b : goal.enum_known-b
unfolding flags_at requiring
enum_known-b c = search rules

pub returns-then-f-eq0 : goal.returns-then-f-eq0
unfolding flags_at requiring
returns-then-f-eq0 c = search (steps, known-laws)

pub enum_known-b-in-Refused-1 : goal.enum_known-b-in-Refused-1
unfolding flags_at requiring
enum_known-b-in-Refused-1 c = search rules

pub returns-else-f-eq0 : goal.returns-else-f-eq0
unfolding flags_at requiring
returns-else-f-eq0 c = search (steps, known-laws)

pub returns-in-Refused : goal.returns-in-Refused
unfolding flags_at requiring
returns-in-Refused c = search (steps, known-laws)
