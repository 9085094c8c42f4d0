-- The invariant: the tables keep their lengths, the nodes so far have no more instances than there may be, and those that are left decide.
use Prim.Native.Nat.{◌≤◌}
use mathlib.Core.Path.{◌≡◌}
use lib.ListN.{length}
use Rattle.tables.specs.Indexed.{IndexOf}
use Rattle.index.proofs.FillingLaws.{Sized}
use Rattle.node_pass.proofs.NodeLaws.{Nodes}
use Rattle.node_pass.proofs.nodes_pass.Given as goal

abbrev pub invariant-loop-left : goal.invariant-loop-left
invariant-loop-left l =
    Sized (record { keys = l.initial.names; kinds = l.initial.wanted; places = l.initial.places }) (record { keys = l.names; kinds = l.wanted; places = l.places }) × (length l.children ≡ length l.initial.children) × (l.total ≤ l.limit)
    × (IndexOf l.index l.keys
    → Nodes l.limit l.s l.keys l.kinds l.n l.at (record { keys = l.initial.names; kinds = l.initial.wanted; places = l.initial.places }) l.initial.children (record { keys = l.names; kinds = l.wanted; places = l.places }) l.children l.bound l.fits l.total l.left l.place)

abbrev pub decreases-loop-left : goal.decreases-loop-left
decreases-loop-left l = l.left
