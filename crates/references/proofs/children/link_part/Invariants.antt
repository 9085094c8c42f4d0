-- The invariant: the children before have no fault, and with the children to come the places are what they are to be; each has four bytes.
use Prim.Native.Nat.{◌+◌, ◌*◌, ◌≤◌}
use mathlib.Core.Bool.{true}
use mathlib.Core.List.{[]}
use mathlib.Core.Path.{◌≡◌}
use lib.ListN.{length}
use Rattle.format.specs.Lookup.{gathered}
use Rattle.format.specs.NodeLayout.{child_at}
use Rattle.format.specs.Parsed.{row_at}
use Rattle.tables.specs.Indexed.{IndexOf}
use Rattle.links.specs.Links.{children_put}
use Rattle.links.proofs.RowLaws.{Going}
use Rattle.references.specs.FaultsIn.{child_faults_in}
use Rattle.references.proofs.children.link_part.Given as goal

abbrev pub invariant-loop-left : goal.invariant-loop-left
invariant-loop-left l =
    (l.place + l.left * 4 ≤ length l.s)
    × (length l.row ≡ length l.initial.row)
    × (IndexOf l.index l.nodes → Going (child_at l.s true) (gathered (child_faults_in l.nodes)) (row_at (child_at l.s true) l.n [] l.at) (gathered (child_faults_in l.nodes)) l.left l.place)
    × (IndexOf l.index l.nodes → Going (child_at l.s true) (children_put l.nodes l.initial.row 0) (row_at (child_at l.s true) l.n [] l.at) (children_put l.nodes l.row 0) l.left l.place)

abbrev pub decreases-loop-left : goal.decreases-loop-left
decreases-loop-left l = l.left
