-- The invariant: the lengths from i on have to add up to what is left.
use Prim.Native.Nat.{◌+◌, ◌-◌, ◌≤◌}
use mathlib.Core.Path.{◌≡◌}
use lib.ListN.{length, drop}
use Rattle.board.specs.Board.{total}
use Rattle.board.proofs.sums.adds_up.Given as goal

abbrev pub invariant-loop-i : goal.invariant-loop-i
invariant-loop-i l = (l.i ≤ length l.lengths) × (total l.lengths + l.left ≡ l.lent + total (drop l.i l.lengths))

abbrev pub decreases-loop-i : goal.decreases-loop-i
decreases-loop-i l = length l.lengths - l.i
