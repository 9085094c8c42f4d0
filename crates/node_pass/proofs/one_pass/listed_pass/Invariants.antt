-- The invariant: `ids`, `id_index` and `largest` are those of the nodes so far, the tables keep their lengths, the nodes so far have no more instances than there may be, and those that are left decide.
use Prim.Native.Nat.{◌≤◌}
use mathlib.Core.Path.{◌≡◌}
use lib.ListN.{length}
use Rattle.limits.specs.Limits.{library_limits}
use Rattle.tables.specs.Indexed.{places_for, IndexOf}
use Rattle.index.proofs.FillingLaws.{Sized}
use Rattle.node_pass.proofs.ListedLaws.{Listed}
use Rattle.node_pass.proofs.one_pass.listed_pass.Given as goal

abbrev pub invariant-loop-left : goal.invariant-loop-left
invariant-loop-left l =
    (length l.ids ≡ library_limits.node_instances) × (length l.id_index ≡ places_for library_limits.node_instances) × Sized (record { keys = l.initial.names; kinds = l.initial.wanted; places = l.initial.places }) (record { keys = l.names; kinds = l.wanted; places = l.places })
    × (length l.children ≡ length l.initial.children) × (l.known ≤ l.total) × (l.total ≤ l.limit) × (l.limit ≤ library_limits.node_instances)
    × Listed (IndexOf l.index l.keys) l.limit l.s l.keys l.kinds l.n l.at (record { keys = l.initial.names; kinds = l.initial.wanted; places = l.initial.places }) l.initial.children l.ids l.id_index l.known l.entered l.largest (record { keys = l.names; kinds = l.wanted; places = l.places }) l.children l.fits l.total l.left l.place

abbrev pub decreases-loop-left : goal.decreases-loop-left
decreases-loop-left l = l.left
