use Prim.Native.Nat.{ℕ, ◌-◌, ◌<◌}
use mathlib.Core.Path.{◌≡◌}
use Rattle.format.specs.ExpressionLayout.{expr_at}
use Rattle.format.specs.Parsed.{done}
use Rattle.format.specs.Tree.{Expr}
use Rattle.tables.specs.Indexed.{IndexOf}
use Rattle.evaluation.specs.Value.{word_in, unread_in}
use Rattle.expressions.proofs.OperandsLaws.{Ahead}
use Rattle.evaluation.proofs.ValueLaws.{Pending}
use Rattle.evaluation.proofs.+value_at.Given as goal

abbrev pub invariant-loop-ahead : goal.invariant-loop-ahead
invariant-loop-ahead l =
    (0 < l.levels)
    × (IndexOf l.index l.keys → (e : Expr) (m : ℕ) → expr_at l.s l.levels l.at ≡ done e m
    → Ahead (expr_at l.s (l.levels - 1)) l.ahead l.v.next m (Pending l.levels (word_in l.keys l.words) (unread_in l.keys l.read) l.h l.v e))

abbrev pub decreases-loop-ahead : goal.decreases-loop-ahead
decreases-loop-ahead l = l.ahead

abbrev pub decreases-value_at : goal.decreases-value_at
decreases-value_at l = l.levels
