use borrow.Author.Rules.{rules}
use Rattle.expressions.specs.Heads.{shift_at}
use Rattle.format.specs.Parsed.{requiring}
use Rattle.fields.proofs.Steps.{steps}
use Rattle.expressions.proofs.shift_at.Goals as goal

pub byte_at-b-requires : goal.byte_at-b-requires
unfolding shift_at requiring
byte_at-b-requires c = search rules

pub enum_known-b : goal.enum_known-b
unfolding shift_at requiring
enum_known-b c = search rules

pub returns-then-k-lt1 : goal.returns-then-k-lt1
unfolding shift_at requiring
returns-then-k-lt1 c = search steps

pub enum_known-b-in-Refused-1 : goal.enum_known-b-in-Refused-1
unfolding shift_at requiring
enum_known-b-in-Refused-1 c = search rules

pub returns-else-k-lt1 : goal.returns-else-k-lt1
unfolding shift_at requiring
returns-else-k-lt1 c = search steps

pub returns-in-Refused : goal.returns-in-Refused
unfolding shift_at requiring
returns-in-Refused c = search steps
