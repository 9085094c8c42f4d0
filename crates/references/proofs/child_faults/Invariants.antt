-- The invariant: those before have no fault, so that those to come decide; and with the children to come, the table is what it is to be.
use mathlib.Core.Bool.{true}
use mathlib.Core.List.{[]}
use mathlib.Core.Path.{◌≡◌}
use lib.ListN.{length}
use Rattle.format.specs.NodeLayout.{child_at}
use Rattle.format.specs.Parsed.{row_at}
use Rattle.tables.specs.Indexed.{IndexOf}
use Rattle.links.specs.Links.{children_put}
use Rattle.links.proofs.RowLaws.{Going}
use Rattle.references.specs.FaultsIn.{child_faults_in}
use Rattle.references.proofs.JudgingLaws.{Judging}
use Rattle.references.proofs.child_faults.Given as goal

abbrev pub invariant-loop-left : goal.invariant-loop-left
invariant-loop-left l =
    (length l.child ≡ length l.initial.child)
    × (IndexOf l.index l.keys → Judging (child_at l.s true) (child_faults_in l.keys) (row_at (child_at l.s true) l.n [] l.at) l.left l.place)
    × (IndexOf l.index l.keys → Going (child_at l.s true) (children_put l.keys l.initial.child l.k) (row_at (child_at l.s true) l.n [] l.at) (children_put l.keys l.child l.k) l.left l.place)

abbrev pub decreases-loop-left : goal.decreases-loop-left
decreases-loop-left l = l.left
