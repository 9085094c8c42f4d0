use Prim.Native.Nat.{◌-◌, ◌<◌}
use mathlib.Core.Path.{◌≡◌}
use mathlib.Core.List.{[]}
use Rattle.format.specs.Parsed.{row_at}
use Rattle.format.specs.ExpressionLayout.{expr_at}
use Rattle.fields.specs.Views.{forget}
use Rattle.expressions.proofs.+exact_at.Given as goal

abbrev pub invariant-loop-left : goal.invariant-loop-left
invariant-loop-left l =
    (0 < l.levels) × (forget (expr_at l.s l.levels l.at) ≡ forget (row_at (λ before. expr_at l.s (l.levels - 1)) l.left [] l.place))

abbrev pub decreases-loop-left : goal.decreases-loop-left
decreases-loop-left l = l.left

abbrev pub decreases-exact_at : goal.decreases-exact_at
decreases-exact_at l = l.levels
