use borrow.Author.Rules.{rules}
use Rattle.registers.specs.Registers.{register_flags_at}
use Rattle.fields.proofs.Steps.{steps}
use Rattle.registers.proofs.register_flags_at.Goals as goal

pub flags_at-f-requires : goal.flags_at-f-requires
unfolding register_flags_at
flags_at-f-requires c = search rules

pub enum_known-f : goal.enum_known-f
unfolding register_flags_at
enum_known-f c = search rules

pub byte_count_at-n-requires : goal.byte_count_at-n-requires
unfolding register_flags_at
byte_count_at-n-requires c = search rules

pub enum_known-n : goal.enum_known-n
unfolding register_flags_at
enum_known-n c = search rules

pub enum_known-n-in-Refused-1 : goal.enum_known-n-in-Refused-1
unfolding register_flags_at
enum_known-n-in-Refused-1 c = search rules

pub enum_known-f-in-Refused-f : goal.enum_known-f-in-Refused-f
unfolding register_flags_at
enum_known-f-in-Refused-f c = search rules

pub returns-in-Byte-n : goal.returns-in-Byte-n
unfolding register_flags_at
returns-in-Byte-n c = search steps

pub returns-in-Refused-n : goal.returns-in-Refused-n
unfolding register_flags_at
returns-in-Refused-n c = search steps

pub returns-in-Refused : goal.returns-in-Refused
unfolding register_flags_at
returns-in-Refused c = search steps
