-- At no place passed is the child's rank not below its parent's.
use Rattle.std.proofs.Common.{◌≡◌, ℕ, ◌<◌, false, leb}
use Rattle.cycles.specs.Ranks.{ranks_at}
use Rattle.cycles.proofs.Search.first_not_below.Given as goal

abbrev pub invariant-loop-k : goal.invariant-loop-k
invariant-loop-k l = (j : ℕ) → j < l.k → ranks_at leb l.self.rank l.children.size l.children.table.now j ≡ false
