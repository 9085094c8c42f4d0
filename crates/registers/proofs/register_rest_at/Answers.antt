use borrow.Author.Rules.{rules}
use Rattle.fields.proofs.Steps.{steps}
use Rattle.registers.specs.Registers.{register_rest_at}
use Rattle.registers.proofs.register_rest_at.Goals as goal

pub type_at-t-requires : goal.type_at-t-requires
unfolding register_rest_at
type_at-t-requires c = search rules

pub enum_known-t : goal.enum_known-t
unfolding register_rest_at
enum_known-t c = search rules

pub register_flags_at-requires : goal.register_flags_at-requires
unfolding register_rest_at
register_flags_at-requires c = search rules

pub enum_known-t-in-Refused-1 : goal.enum_known-t-in-Refused-1
unfolding register_rest_at
enum_known-t-in-Refused-1 c = search rules

pub returns-in-Byte : goal.returns-in-Byte
unfolding register_rest_at
returns-in-Byte c = search steps

pub returns-in-Refused : goal.returns-in-Refused
unfolding register_rest_at
returns-in-Refused c = search steps
