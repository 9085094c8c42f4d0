use borrow.Author.Rules.{rules}
use Rattle.expressions.specs.Heads.{operand_count_at}
use Rattle.format.specs.Parsed.{requiring}
use Rattle.fields.proofs.Steps.{steps}
use Rattle.expressions.proofs.operand_count_at.Goals as goal

pub byte_at-b-requires : goal.byte_at-b-requires
unfolding operand_count_at requiring
byte_at-b-requires c = search rules

pub enum_known-b : goal.enum_known-b
unfolding operand_count_at requiring
enum_known-b c = search rules

pub returns-then-n-lt2 : goal.returns-then-n-lt2
unfolding operand_count_at requiring
returns-then-n-lt2 c = search steps

pub enum_known-b-in-Refused-1 : goal.enum_known-b-in-Refused-1
unfolding operand_count_at requiring
enum_known-b-in-Refused-1 c = search rules

pub returns-else-n-lt2 : goal.returns-else-n-lt2
unfolding operand_count_at requiring
returns-else-n-lt2 c = search steps

pub returns-in-Refused : goal.returns-in-Refused
unfolding operand_count_at requiring
returns-in-Refused c = search steps
