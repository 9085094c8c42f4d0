-- The invariant: no root before is for the type, so that it is sought among those to come.
use mathlib.Core.Bool.{true}
use mathlib.Core.List.{[]}
use Rattle.format.specs.FileLayout.{root_at}
use Rattle.format.specs.Parsed.{row_at}
use Rattle.links.proofs.RowLaws.{Going}
use Rattle.references.specs.RootIn.{root_position}
use Rattle.references.proofs.roots.find_root.Given as goal

abbrev pub invariant-loop-left : goal.invariant-loop-left
invariant-loop-left l = Going (root_at l.s true) (root_position l.nodes l.attention) (row_at (root_at l.s true) l.n [] l.at) (root_position l.nodes l.attention) l.left l.place

abbrev pub decreases-loop-left : goal.decreases-loop-left
decreases-loop-left l = l.left
