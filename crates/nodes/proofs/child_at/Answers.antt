use Rattle.fields.proofs.Steps.{steps}
use Rattle.nodes.proofs.NodeLaws.{node_laws}
use Rattle.nodes.proofs.child_at.Goals as goal

pub returns-in-Byte-n : goal.returns-in-Byte-n
returns-in-Byte-n c before = search (steps, node_laws) depth 8

pub returns-in-Refused-n : goal.returns-in-Refused-n
returns-in-Refused-n c before = search (steps, node_laws) depth 8

pub returns-in-Refused-i : goal.returns-in-Refused-i
returns-in-Refused-i c before = search (steps, node_laws) depth 8

pub returns-in-Refused : goal.returns-in-Refused
returns-in-Refused c before = search (steps, node_laws) depth 8
