use borrow.Author.Rules.{rules}
use Rattle.fields.specs.Seen.{instance_number_at}
use Rattle.fields.proofs.Steps.{steps}
use Rattle.fields.proofs.SeenLaws.{seen-laws}
use Rattle.fields.proofs.seen.instance_number_at.Goals as goal

pub byte_at-b-requires : goal.byte_at-b-requires
unfolding instance_number_at
byte_at-b-requires c = search rules

pub enum_known-b : goal.enum_known-b
unfolding instance_number_at
enum_known-b c = search rules

pub returns-then-limit-begun : goal.returns-then-limit-begun
unfolding instance_number_at
returns-then-limit-begun c = search (steps, seen-laws) depth 8

pub is_marked-requires : goal.is_marked-requires
unfolding instance_number_at
is_marked-requires c = search rules

pub returns-then-is_marked : goal.returns-then-is_marked
unfolding instance_number_at
returns-then-is_marked c = search (steps, seen-laws) depth 8

pub enum_known-b-in-Refused-1 : goal.enum_known-b-in-Refused-1
unfolding instance_number_at
enum_known-b-in-Refused-1 c = search rules

pub returns-else-is_marked : goal.returns-else-is_marked
unfolding instance_number_at
returns-else-is_marked c = search (steps, seen-laws) depth 8

pub returns-in-Refused : goal.returns-in-Refused
unfolding instance_number_at
returns-in-Refused c = search (steps, seen-laws) depth 8
