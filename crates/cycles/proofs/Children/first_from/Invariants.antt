-- No instance passed lies on a cycle.
use Rattle.std.proofs.Common.{◌≡◌, ℕ, ◌<◌, false}
use Rattle.cycles.specs.Cycle.{in_cycle}
use Rattle.cycles.proofs.Children.first_from.Given as goal

abbrev pub invariant-loop-i : goal.invariant-loop-i
invariant-loop-i l = (k : ℕ) → k < l.i → in_cycle l.self.size l.self.table.now k ≡ false
