use Rattle.fields.proofs.Steps.{steps}
use Rattle.nodes.proofs.NodeLaws.{node_laws}
use Rattle.nodes.proofs.node_head_at.Goals as goal

pub returns-in-Byte-n : goal.returns-in-Byte-n
returns-in-Byte-n c i numbers = let e = c.node_id_at-i.ensures i in search (steps, node_laws) depth 8

pub returns-in-Refused-n : goal.returns-in-Refused-n
returns-in-Refused-n c i numbers = let e = c.node_id_at-i.ensures i in search (steps, node_laws) depth 8

pub returns-in-Refused-t : goal.returns-in-Refused-t
returns-in-Refused-t c i numbers = let e = c.node_id_at-i.ensures i in search (steps, node_laws) depth 8

pub returns-in-Refused : goal.returns-in-Refused
returns-in-Refused c i numbers = let e = c.node_id_at-i.ensures i in search (steps, node_laws) depth 8
