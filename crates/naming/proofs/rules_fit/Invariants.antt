-- The invariant: the rules so far are read and fit, and the marks tell their attention types.
use mathlib.Core.Path.{◌≡◌}
use lib.ListN.{length}
use Rattle.tables.specs.Indexed.{IndexOf}
use Rattle.naming.proofs.FitRowsLaws.{FittingRules}
use Rattle.naming.proofs.rules_fit.Given as goal

abbrev pub invariant-loop-left : goal.invariant-loop-left
invariant-loop-left l =
    (length l.seen ≡ 6) × (IndexOf l.index l.keys → FittingRules l.s l.keys l.kinds l.kind l.n l.at l.seen l.left l.place)

abbrev pub decreases-loop-left : goal.decreases-loop-left
decreases-loop-left l = l.left
