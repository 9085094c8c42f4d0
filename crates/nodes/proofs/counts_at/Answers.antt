use borrow.Author.Rules.{rules}
use Rattle.nodes.specs.Nodes.{counts_at}
use Rattle.fields.proofs.Steps.{steps}
use Rattle.nodes.proofs.counts_at.Goals as goal

pub byte_count_at-b-requires : goal.byte_count_at-b-requires
unfolding counts_at
byte_count_at-b-requires c = search rules

pub enum_known-b : goal.enum_known-b
unfolding counts_at
enum_known-b c = search rules

pub byte_at-c-requires : goal.byte_at-c-requires
unfolding counts_at
byte_at-c-requires c = search rules

pub enum_known-c : goal.enum_known-c
unfolding counts_at
enum_known-c c = search rules

pub enum_known-c-in-Refused-1 : goal.enum_known-c-in-Refused-1
unfolding counts_at
enum_known-c-in-Refused-1 c = search rules

pub enum_known-b-in-Refused-b : goal.enum_known-b-in-Refused-b
unfolding counts_at
enum_known-b-in-Refused-b c = search rules

pub returns-in-Byte-c : goal.returns-in-Byte-c
unfolding counts_at
returns-in-Byte-c c = search steps

pub returns-in-Refused-c : goal.returns-in-Refused-c
unfolding counts_at
returns-in-Refused-c c = search steps

pub returns-in-Refused : goal.returns-in-Refused
unfolding counts_at
returns-in-Refused c = search steps
