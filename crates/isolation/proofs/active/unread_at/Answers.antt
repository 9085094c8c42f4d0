use mathlib.Core.Path.{◌≡◌, sym, ◌∙◌}
use Prim.Native.Nat.{ℕ}
use native.Mathlib.Omega.{arith}
use lib.ListN.{get_or-eq_default}
use Rattle.isolation.proofs.ActivityLaws.{at_done, at_other}
use Rattle.isolation.proofs.active.unread_at.Goals as goal

pub returns-then-marks-i-eq2 : goal.returns-then-marks-i-eq2
returns-then-marks-i-eq2 c = at_done _ _ _ c.if-marks-i-eq2.true c.entry.ensures

pub returns-else-marks-i-eq2 : goal.returns-else-marks-i-eq2
returns-else-marks-i-eq2 c = at_other _ _ _ c.if-marks-i-eq2.false

pub returns-else-i-marks : goal.returns-else-i-marks
returns-else-i-marks c =
    at_other c.args.marks.now _ c.args.i (λ e. let z : ◌≡◌ {A = ℕ} 0 2 = sym (get_or-eq_default c.args.marks.now 0 c.if-i-marks.false) ∙ e in absurd (omega arith))
