-- The invariant: so far it is a walk over the whole tables, and what is done stands in those of the code.
use Prim.Native.Nat.{ℕ, ◌-◌, ◌<◌}
use mathlib.Core.List.{List}
use mathlib.Core.Path.{◌≡◌}
use lib.ListN.{length}
use Rattle.limits.specs.declared.LimitSet.{LimitSet}
use Rattle.limits.specs.Limits.{library_limits}
use Rattle.walk.specs.Marks.{waiting_words}
use Rattle.isolation.specs.Activity.{active_column, unread_column}
use Rattle.isolation.specs.Ready.{Tabled}
use Rattle.isolation.proofs.ReachLaws.{Reaching}
use Rattle.isolation.proofs.reach.reach.Given as goal

abbrev pub invariant-loop-steps : goal.invariant-loop-steps
invariant-loop-steps l =
    (length l.active ≡ length l.initial.active) × (length l.unread ≡ length l.initial.unread) × (l.w.waiting ≡ waiting_words l.w.marks) × ((of : LimitSet) (nodes : List ℕ) (t : Tabled of l.s l.keys l.index nodes l.places l.child) → length l.initial.active ≡ length l.places → length l.initial.unread ≡ length l.places → l.root < length l.places
    → Reaching (active_column l.keys l.words l.read l.attention t.chip) (unread_column l.keys l.read l.attention t.chip) l.child l.root l.w.marks l.active l.unread l.steps)

abbrev pub decreases-loop-steps : goal.decreases-loop-steps
decreases-loop-steps l = library_limits.node_instances - l.steps
