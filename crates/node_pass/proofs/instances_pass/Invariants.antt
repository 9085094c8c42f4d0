-- The invariant: the tables keep their lengths, there is room for those that are left, and these decide.
use Prim.Native.Nat.{◌+◌, ◌≤◌}
use mathlib.Core.Path.{◌≡◌}
use lib.ListN.{length}
use Rattle.tables.specs.Indexed.{IndexOf}
use Rattle.index.proofs.FillingLaws.{Sized}
use Rattle.node_pass.proofs.InstanceLaws.{Instances}
use Rattle.node_pass.proofs.instances_pass.Given as goal

abbrev pub invariant-loop-left : goal.invariant-loop-left
invariant-loop-left l =
    Sized (record { keys = l.initial.names; kinds = l.initial.wanted; places = l.initial.places }) (record { keys = l.names; kinds = l.wanted; places = l.places }) × (length l.children ≡ length l.initial.children) × (l.begun + l.left ≤ l.limit)
    × (IndexOf l.index l.keys
    → Instances l.limit l.s l.keys l.kinds l.id l.kind l.count l.total l.at (record { keys = l.initial.names; kinds = l.initial.wanted; places = l.initial.places }) l.initial.children (record { keys = l.names; kinds = l.wanted; places = l.places }) l.children l.bound l.fits l.begun l.left l.place)

abbrev pub decreases-loop-left : goal.decreases-loop-left
decreases-loop-left l = l.left
