-- The invariant: the captures so far are read and fit, and the bytes of those that are left are there.
use Prim.Native.Nat.{◌+◌, ◌*◌, ◌≤◌}
use mathlib.Core.Path.{◌≡◌}
use lib.ListN.{length}
use Rattle.tables.specs.Indexed.{IndexOf}
use Rattle.naming.proofs.FitRowsLaws.{FittingCaptures}
use Rattle.naming.proofs.captures_fit.Given as goal

abbrev pub invariant-loop-left : goal.invariant-loop-left
invariant-loop-left l =
    (l.place + l.left * 4 ≤ length l.s) × (l.place + l.left * 4 ≡ l.at + l.n * 4) × (IndexOf l.index l.keys → FittingCaptures l.s l.keys l.kinds l.n l.at l.left l.place)

abbrev pub decreases-loop-left : goal.decreases-loop-left
decreases-loop-left l = l.left
