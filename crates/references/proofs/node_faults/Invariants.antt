-- The invariant: the node instances before i have no fault, so that those from i on decide; and with the children of those, the table is what it is to be.
use Prim.Native.Nat.{◌≤◌, ◌-◌}
use mathlib.Core.Path.{◌≡◌}
use lib.ListN.{length}
use Rattle.tables.specs.Indexed.{IndexOf}
use Rattle.references.proofs.ScanLaws.{Scan, Rows}
use Rattle.references.proofs.node_faults.Given as goal

abbrev pub invariant-loop-i : goal.invariant-loop-i
invariant-loop-i l =
    (l.i ≤ length l.places)
    × (length l.child ≡ length l.initial.child)
    × (IndexOf l.index l.keys → IndexOf l.node_index l.nodes → Scan l.s l.places l.wanted l.keys l.kinds l.nodes l.i)
    × (IndexOf l.index l.keys → IndexOf l.node_index l.nodes → Rows l.s l.places l.nodes l.initial.child l.child l.k l.i)

abbrev pub decreases-loop-i : goal.decreases-loop-i
decreases-loop-i l = length l.places - l.i
