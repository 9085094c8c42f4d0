-- The invariant: no child of the node instances before i has a fault, and with the children of those from i on, the table is what it is to be.
use Prim.Native.Nat.{◌-◌}
use mathlib.Core.Path.{◌≡◌}
use lib.ListN.{length}
use Rattle.tables.specs.Indexed.{IndexOf}
use Rattle.references.proofs.LinkingLaws.{Linking}
use Rattle.references.proofs.children.link_children.Given as goal

abbrev pub invariant-loop-i : goal.invariant-loop-i
invariant-loop-i l =
    (length l.child ≡ length l.initial.child) × (IndexOf l.index l.nodes → Linking l.s l.kids l.nodes l.initial.child l.child l.k l.i)

abbrev pub decreases-loop-i : goal.decreases-loop-i
decreases-loop-i l = length l.kids - l.i
