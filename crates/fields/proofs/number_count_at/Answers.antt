use borrow.Author.Rules.{rules}
use Rattle.format.specs.Fields.{count_at}
use Rattle.format.specs.Parsed.{requiring}
use Rattle.fields.proofs.Steps.{steps}
use Rattle.fields.proofs.number_count_at.Goals as goal

pub number_at-b-requires : goal.number_at-b-requires
unfolding count_at requiring
number_at-b-requires c = search rules

pub enum_known-b : goal.enum_known-b
unfolding count_at requiring
enum_known-b c = search rules

pub returns-then-count-gt0 : goal.returns-then-count-gt0
unfolding count_at requiring
returns-then-count-gt0 c = search steps

pub enum_known-b-in-Refused-1 : goal.enum_known-b-in-Refused-1
unfolding count_at requiring
enum_known-b-in-Refused-1 c = search rules

pub returns-else-count-gt0 : goal.returns-else-count-gt0
unfolding count_at requiring
returns-else-count-gt0 c = search steps

pub returns-in-Refused : goal.returns-in-Refused
unfolding count_at requiring
returns-in-Refused c = search steps
