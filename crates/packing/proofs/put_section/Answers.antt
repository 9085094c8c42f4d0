use Rattle.packing.proofs.OutputLaws.{head_room, roots_back, nodes_back, registers_back}
use Rattle.packing.proofs.put_section.Goals as goal

pub put_head-requires : goal.put_head-requires
put_head-requires c = head_room c.put_part-start.ensures 7 (rw c.in-Registers.is at c.requires.0)

pub put_head-requires-in-Nodes : goal.put_head-requires-in-Nodes
put_head-requires-in-Nodes c = head_room c.put_part-start.ensures 6 (rw c.in-Nodes.is at c.requires.0)

pub put_head-requires-in-Roots : goal.put_head-requires-in-Roots
put_head-requires-in-Roots c = head_room c.put_part-start.ensures 5 (rw c.in-Roots.is at c.requires.0)

pub returns-in-Registers : goal.returns-in-Registers
returns-in-Registers c = rw c.in-Registers.is (registers_back c.put_part-start.ensures c.put_head.ensures)

pub returns-in-Nodes : goal.returns-in-Nodes
returns-in-Nodes c = rw c.in-Nodes.is (nodes_back c.put_part-start.ensures c.put_head-in-Nodes.ensures)

pub returns-in-Roots : goal.returns-in-Roots
returns-in-Roots c = rw c.in-Roots.is (roots_back c.put_part-start.ensures c.put_head-in-Roots.ensures)
