-- No instance passed is done and has the child.
use Rattle.std.proofs.Common.{◌≡◌, false, ◌&&◌, eqb, get_or}
use Rattle.graph.specs.Below.{any}
use Rattle.cycles.specs.Cycle.{table_edge}
use Rattle.cycles.proofs.Children.closes.Given as goal

abbrev pub invariant-loop-j : goal.invariant-loop-j
invariant-loop-j l = any l.j (λ k. eqb (get_or l.marks k 0) 2 && table_edge l.self.size l.self.table.now k l.i) ≡ false
