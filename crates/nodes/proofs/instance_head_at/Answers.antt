use Rattle.fields.proofs.Steps.{steps}
use Rattle.nodes.proofs.NodeLaws.{node_laws}
use Rattle.nodes.proofs.instance_head_at.Goals as goal

pub returns-in-Byte-c : goal.returns-in-Byte-c
returns-in-Byte-c c numbers = search (steps, node_laws) depth 8

pub returns-in-Refused-c : goal.returns-in-Refused-c
returns-in-Refused-c c numbers = search (steps, node_laws) depth 8

pub returns-in-Refused : goal.returns-in-Refused
returns-in-Refused c numbers = search (steps, node_laws) depth 8
