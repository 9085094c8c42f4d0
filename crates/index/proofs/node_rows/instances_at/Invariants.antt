-- The invariant: the marks tell the numbers of the instances so far, and those that are left decide; with the rows of these the tables are what they are to be.
use mathlib.Core.Bool.{true}
use mathlib.Core.List.{[], ◌∷◌}
use Rattle.format.specs.Parsed.{row_at}
use Rattle.format.specs.NodeLayout.{node_instance_at}
use Rattle.fields.proofs.RowLaws.{Row}
use Rattle.nodes.specs.Nodes.{node_number}
use Rattle.index.specs.Rows.{row_of}
use Rattle.index.proofs.FillingLaws.{Sized, Filling}
use Rattle.index.proofs.node_rows.instances_at.Given as goal

abbrev pub invariant-loop-left : goal.invariant-loop-left
invariant-loop-left l =
    Row (node_instance_at l.limit l.s true l.total) node_number (row_at (node_instance_at l.limit l.s true l.total) l.count [] l.at) l.total l.begun l.seen l.left l.place
    × Sized (record { keys = l.initial.keys; kinds = l.initial.kinds; places = l.initial.places }) (record { keys = l.keys; kinds = l.kinds; places = l.places })
    × Filling (node_instance_at l.limit l.s true l.total) (λ i. row_of l.id l.code i.number i.place ∷ []) (λ b x. Unit {0}) (row_at (node_instance_at l.limit l.s true l.total) l.count [] l.at)
    (record { keys = l.initial.keys; kinds = l.initial.kinds; places = l.initial.places }) l.total (record { keys = l.keys; kinds = l.kinds; places = l.places }) l.begun l.left l.place

abbrev pub decreases-loop-left : goal.decreases-loop-left
decreases-loop-left l = l.left
