use Rattle.format.specs.FileLayout.{start_at}
use Rattle.format.specs.Keywords.{chipdata}
use Rattle.fields.proofs.Steps.{steps}
use Rattle.reader.proofs.roots.start_at.Goals as goal

pub returns-in-Byte : goal.returns-in-Byte
unfolding start_at chipdata
returns-in-Byte c = search steps depth 8

pub returns-in-Refused-v : goal.returns-in-Refused-v
unfolding start_at chipdata
returns-in-Refused-v c = search steps depth 8

pub returns-in-Refused-m : goal.returns-in-Refused-m
unfolding start_at chipdata
returns-in-Refused-m c = search steps depth 8

pub returns-in-Refused : goal.returns-in-Refused
unfolding start_at chipdata
returns-in-Refused c = search steps depth 8
