use Prim.Native.Nat.{◌-◌}
use mathlib.Core.Path.{◌≡◌}
use Rattle.walk.specs.TableGraph.{table_graph}
use Rattle.walk.specs.Marks.{waiting_words}
use Rattle.walk.proofs.WalkLaws.{Walking}
use Rattle.walk.proofs.run.Given as goal

abbrev pub invariant-loop-w : goal.invariant-loop-w
invariant-loop-w l = Walking (table_graph l.active l.child) l.root l.w.marks l.steps × (l.w.waiting ≡ waiting_words l.w.marks)

abbrev pub decreases-loop-w : goal.decreases-loop-w
decreases-loop-w l = l.n - l.steps
