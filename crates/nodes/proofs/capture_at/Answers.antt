use borrow.Author.Rules.{rules}
use Rattle.format.specs.NodeLayout.{capture_at}
use Rattle.fields.proofs.Steps.{steps}
use Rattle.nodes.proofs.capture_at.Goals as goal

pub number_at-i-requires : goal.number_at-i-requires
unfolding capture_at
number_at-i-requires c = search rules

pub enum_known-i : goal.enum_known-i
unfolding capture_at
enum_known-i c = search rules

pub byte_at-n-requires : goal.byte_at-n-requires
unfolding capture_at
byte_at-n-requires c = search rules

pub enum_known-n : goal.enum_known-n
unfolding capture_at
enum_known-n c = search rules

pub enum_known-n-in-Refused-1 : goal.enum_known-n-in-Refused-1
unfolding capture_at
enum_known-n-in-Refused-1 c = search rules

pub enum_known-i-in-Refused-i : goal.enum_known-i-in-Refused-i
unfolding capture_at
enum_known-i-in-Refused-i c = search rules

pub returns-in-Byte : goal.returns-in-Byte
unfolding capture_at
returns-in-Byte c = search steps depth 8

pub returns-in-Refused-n : goal.returns-in-Refused-n
unfolding capture_at
returns-in-Refused-n c = search steps depth 8

pub returns-in-Refused : goal.returns-in-Refused
unfolding capture_at
returns-in-Refused c = search steps depth 8
