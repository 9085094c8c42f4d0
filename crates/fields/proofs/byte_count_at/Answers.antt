use borrow.Author.Rules.{rules}
use Rattle.format.specs.Fields.{count_at}
use Rattle.format.specs.Parsed.{requiring}
use Rattle.fields.proofs.Steps.{steps}
use Rattle.fields.proofs.byte_count_at.Goals as goal

pub byte_at-b-requires : goal.byte_at-b-requires
unfolding count_at requiring
byte_at-b-requires c = search rules

pub enum_known-b : goal.enum_known-b
unfolding count_at requiring
enum_known-b c = search rules

pub returns-then-n-gt0 : goal.returns-then-n-gt0
unfolding count_at requiring
returns-then-n-gt0 c = search steps

pub enum_known-b-in-Refused-1 : goal.enum_known-b-in-Refused-1
unfolding count_at requiring
enum_known-b-in-Refused-1 c = search rules

pub returns-else-n-gt0 : goal.returns-else-n-gt0
unfolding count_at requiring
returns-else-n-gt0 c = search steps

pub returns-in-Refused : goal.returns-in-Refused
unfolding count_at requiring
returns-in-Refused c = search steps
