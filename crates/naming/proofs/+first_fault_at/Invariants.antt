use Prim.Native.Nat.{ℕ, ◌-◌, ◌<◌}
use mathlib.Core.Path.{◌≡◌}
use Rattle.format.specs.ExpressionLayout.{expr_at}
use Rattle.format.specs.Parsed.{done}
use Rattle.format.specs.Tree.{Expr}
use Rattle.tables.specs.Faults.{name_faults}
use Rattle.tables.specs.Indexed.{IndexOf}
use Rattle.expressions.proofs.OperandsLaws.{Ahead}
use Rattle.naming.proofs.JudgedLaws.{Judged}
use Rattle.naming.proofs.+first_fault_at.Given as goal

abbrev pub invariant-loop-left : goal.invariant-loop-left
invariant-loop-left l =
    (0 < l.levels)
    × (IndexOf l.index l.keys → (e : Expr) (m : ℕ) → expr_at l.s l.levels l.at ≡ done e m
    → Ahead (expr_at l.s (l.levels - 1)) l.left l.place m (Judged (name_faults l.keys l.kinds l.kind) e m))

abbrev pub decreases-loop-left : goal.decreases-loop-left
decreases-loop-left l = l.left

abbrev pub decreases-first_fault_at : goal.decreases-first_fault_at
decreases-first_fault_at l = l.levels
