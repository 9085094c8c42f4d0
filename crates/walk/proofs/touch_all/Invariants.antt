-- The invariant: the children of the bits that were taken have been looked at. The measure is how many are left: one pass for each active bit.
use mathlib.Core.Path.{◌≡◌}
use lib.Count.{ones}
use lib.ListN.{length}
use Rattle.walk.specs.Marks.{waiting_words}
use Rattle.walk.proofs.TouchLaws.{Touched}
use Rattle.walk.proofs.touch_all.Given as goal

abbrev pub invariant-loop-rest : goal.invariant-loop-rest
invariant-loop-rest l =
    (length l.m ≡ length l.initial.m)
    × (length l.words ≡ length l.initial.words)
    × Touched l.active l.child l.initial.m l.k l.m l.rest
    × (l.initial.words ≡ waiting_words l.initial.m → l.words ≡ waiting_words l.m)

abbrev pub decreases-loop-rest : goal.decreases-loop-rest
decreases-loop-rest l = ones l.rest
