-- The invariant: with the places to come cleared, all places are.
use Prim.Native.Nat.{◌-◌}
use mathlib.Core.Path.{◌≡◌}
use lib.ListN.{length}
use Rattle.tables.specs.Tables.{written}
use Rattle.links.specs.Links.{childless}
use Rattle.links.proofs.fill.Given as goal

abbrev pub invariant-loop-i : goal.invariant-loop-i
invariant-loop-i l = (length l.part ≡ length l.initial.part) × (written l.part l.i (childless (length l.initial.part - l.i)) ≡ childless (length l.initial.part))

abbrev pub decreases-loop-i : goal.decreases-loop-i
decreases-loop-i l = length l.initial.part - l.i
