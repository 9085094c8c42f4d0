use Rattle.fields.proofs.Steps.{steps}
use Rattle.reader.proofs.RootLaws.{root_told}
use Rattle.reader.proofs.roots.root_at.Goals as goal

pub returns-in-Byte-n : goal.returns-in-Byte-n
returns-in-Byte-n c before t = search (steps, root_told) depth 8

pub returns-in-Refused-n : goal.returns-in-Refused-n
returns-in-Refused-n c before t = search (steps, root_told) depth 8

pub returns-in-Refused-i : goal.returns-in-Refused-i
returns-in-Refused-i c before t = search (steps, root_told) depth 8

pub returns-in-Refused : goal.returns-in-Refused
returns-in-Refused c before t = search (steps, root_told) depth 8
