-- The invariant: those that are left decide.
use mathlib.Core.List.{[]}
use mathlib.Core.Path.{◌≡◌}
use Rattle.format.specs.Parsed.{row_at}
use Rattle.format.specs.NodeLayout.{capture_at}
use Rattle.fields.specs.Views.{forget}
use Rattle.nodes.proofs.each_capture_at.Given as goal

abbrev pub invariant-loop-left : goal.invariant-loop-left
invariant-loop-left l = forget (row_at (capture_at l.s) l.n [] l.at) ≡ forget (row_at (λ before. capture_at l.s []) l.left [] l.place)

abbrev pub decreases-loop-left : goal.decreases-loop-left
decreases-loop-left l = l.left
