use borrow.Author.Rules.{rules}
use Rattle.format.specs.Fields.{attention_at}
use Rattle.format.specs.Parsed.{requiring}
use Rattle.fields.proofs.Steps.{steps}
use Rattle.fields.proofs.FieldLaws.{known-laws}
use Rattle.fields.proofs.attention_at.Goals as goal

pub byte_at-b-requires : goal.byte_at-b-requires
unfolding attention_at requiring
byte_at-b-requires c = search rules

pub enum_known-b : goal.enum_known-b
unfolding attention_at requiring
enum_known-b c = search rules

pub returns-then-a-lt1 : goal.returns-then-a-lt1
unfolding attention_at requiring
returns-then-a-lt1 c = search (steps, known-laws)

pub returns-then-a-gt5 : goal.returns-then-a-gt5
unfolding attention_at requiring
returns-then-a-gt5 c = search (steps, known-laws)

pub enum_known-b-in-Refused-1 : goal.enum_known-b-in-Refused-1
unfolding attention_at requiring
enum_known-b-in-Refused-1 c = search rules

pub returns-else-a-gt5 : goal.returns-else-a-gt5
unfolding attention_at requiring
returns-else-a-gt5 c = search (steps, known-laws)

pub returns-in-Refused : goal.returns-in-Refused
unfolding attention_at requiring
returns-in-Refused c = search (steps, known-laws)
