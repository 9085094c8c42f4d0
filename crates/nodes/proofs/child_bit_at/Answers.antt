use borrow.Author.Rules.{rules}
use Rattle.nodes.specs.Nodes.{child_bit_at}
use Rattle.fields.proofs.Steps.{steps}
use Rattle.fields.proofs.SeenLaws.{seen-laws}
use Rattle.nodes.proofs.child_bit_at.Goals as goal

pub byte_at-b-requires : goal.byte_at-b-requires
unfolding child_bit_at
byte_at-b-requires c = search rules

pub enum_known-b : goal.enum_known-b
unfolding child_bit_at
enum_known-b c = search rules

pub returns-then-bit-ge64 : goal.returns-then-bit-ge64
unfolding child_bit_at
returns-then-bit-ge64 c = search (steps, seen-laws) depth 8

pub is_marked-requires : goal.is_marked-requires
unfolding child_bit_at
is_marked-requires c = search rules

pub returns-then-is_marked : goal.returns-then-is_marked
unfolding child_bit_at
returns-then-is_marked c = search (steps, seen-laws) depth 8

pub enum_known-b-in-Refused-1 : goal.enum_known-b-in-Refused-1
unfolding child_bit_at
enum_known-b-in-Refused-1 c = search rules

pub returns-else-is_marked : goal.returns-else-is_marked
unfolding child_bit_at
returns-else-is_marked c = search (steps, seen-laws) depth 8

pub returns-in-Refused : goal.returns-in-Refused
unfolding child_bit_at
returns-in-Refused c = search (steps, seen-laws) depth 8
