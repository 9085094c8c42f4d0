-- The invariant: the children so far are read, their bits are below the bound, and the bytes of those that are left are there.
use Rattle.nodes.proofs.NodeLaws.{RisingChildren}
use Rattle.nodes.proofs.rising_children.Given as goal

abbrev pub invariant-loop-left : goal.invariant-loop-left
invariant-loop-left l = RisingChildren l.s l.n l.at l.bound l.left l.place

abbrev pub decreases-loop-left : goal.decreases-loop-left
decreases-loop-left l = l.left
