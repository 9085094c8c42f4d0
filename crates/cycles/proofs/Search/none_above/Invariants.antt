-- At no place passed is the child's rank above its parent's.
use Rattle.std.proofs.Common.{◌≡◌, ℕ, ◌<◌, ◌≤◌, false, ltb}
use Rattle.cycles.specs.Ranks.{ranks_at}
use Rattle.cycles.proofs.Search.none_above.Given as goal

abbrev pub invariant-loop-k : goal.invariant-loop-k
invariant-loop-k l = (j : ℕ) → j < l.k → l.first ≤ j → ranks_at ltb l.self.rank l.children.size l.children.table.now j ≡ false
