-- No place passed holds the child.
use Rattle.std.proofs.Common.{◌≡◌, ◌+◌, ◌*◌, false}
use Rattle.graph.specs.Below.{any}
use Rattle.graph.specs.Chains.{names}
use Rattle.walk.specs.TableGraph.{child_at}
use Rattle.cycles.proofs.Children.has_child.Given as goal

abbrev pub invariant-loop-b : goal.invariant-loop-b
invariant-loop-b l = any l.b (λ k. names (child_at l.self.size l.self.table.now (l.j * 64 + k)) l.c) ≡ false
