-- The invariant: those before have no fault, so that those to come decide; each has four bytes.
use Prim.Native.Nat.{◌+◌, ◌*◌, ◌≤◌}
use mathlib.Core.List.{[]}
use lib.ListN.{length}
use Rattle.format.specs.NodeLayout.{capture_at}
use Rattle.format.specs.Parsed.{row_at}
use Rattle.tables.specs.Indexed.{IndexOf}
use Rattle.tables.specs.Faults.{capture_faults_in}
use Rattle.references.proofs.JudgingLaws.{Judging}
use Rattle.references.proofs.capture_faults.Given as goal

abbrev pub invariant-loop-left : goal.invariant-loop-left
invariant-loop-left l =
    (l.place + l.left * 4 ≤ length l.s) × (IndexOf l.index l.keys → Judging (capture_at l.s) (capture_faults_in l.keys l.kinds) (row_at (capture_at l.s) l.n [] l.at) l.left l.place)

abbrev pub decreases-loop-left : goal.decreases-loop-left
decreases-loop-left l = l.left
