-- The invariant: `ids`, `index`, `largest` and `total` are those of the nodes so far, and those that are left decide; with the rows of these the tables are what they are to be.
use Prim.Native.Nat.{◌≤◌}
use mathlib.Core.Bool.{true}
use mathlib.Core.List.{[], map}
use mathlib.Core.Path.{◌≡◌}
use lib.ListN.{length}
use Rattle.tables.specs.Indexed.{places_for}
use Rattle.limits.specs.Limits.{library_limits}
use Rattle.format.specs.Lookup.{node_entries_of}
use Rattle.format.specs.Parsed.{row_at}
use Rattle.format.specs.NodeLayout.{node_total, node_at}
use Rattle.fields.proofs.RowLaws.{Elements}
use Rattle.nodes.specs.Nodes.{node_id}
use Rattle.index.specs.Rows.{node_row}
use Rattle.index.proofs.FillingLaws.{Sized, Filling}
use Rattle.index.proofs.node_rows.rows_at.Given as goal

abbrev pub invariant-loop-left : goal.invariant-loop-left
invariant-loop-left l =
    (length l.ids ≡ library_limits.node_instances) × (length l.index ≡ places_for library_limits.node_instances) × (l.known ≤ l.total) × (l.total ≤ library_limits.node_instances) × Elements (node_at l.limit l.s true) node_id node_total (row_at (node_at l.limit l.s true) l.n [] l.at) l.ids l.index l.known l.entered l.largest l.total l.left l.place
    × Sized (record { keys = l.initial.keys; kinds = l.initial.kinds; places = l.initial.places }) (record { keys = l.keys; kinds = l.kinds; places = l.places })
    × Filling (node_at l.limit l.s true) (λ r. map node_row (node_entries_of r)) (λ before j. j ≡ node_total before) (row_at (node_at l.limit l.s true) l.n [] l.at)
    (record { keys = l.initial.keys; kinds = l.initial.kinds; places = l.initial.places }) 0 (record { keys = l.keys; kinds = l.kinds; places = l.places }) l.total l.left l.place
    × (l.limit ≤ library_limits.node_instances)

abbrev pub decreases-loop-left : goal.decreases-loop-left
decreases-loop-left l = l.left
