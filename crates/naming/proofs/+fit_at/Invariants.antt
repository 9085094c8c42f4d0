use Prim.Native.Nat.{◌<◌}
use Rattle.tables.specs.Faults.{name_faults}
use Rattle.tables.specs.Indexed.{IndexOf}
use Rattle.naming.proofs.FitLaws.{FitAhead}
use Rattle.naming.proofs.+fit_at.Given as goal

abbrev pub invariant-loop-left : goal.invariant-loop-left
invariant-loop-left l =
    (0 < l.levels) × (IndexOf l.index l.keys → FitAhead (name_faults l.keys l.kinds l.kind) l.s l.levels l.at l.left l.place)

abbrev pub decreases-loop-left : goal.decreases-loop-left
decreases-loop-left l = l.left

abbrev pub decreases-fit_at : goal.decreases-fit_at
decreases-fit_at l = l.levels
