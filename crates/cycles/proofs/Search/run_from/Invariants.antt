-- The search is at an instance, or has ended.
use Rattle.std.proofs.Common.{◌<◌, IfSome}
use Rattle.cycles.proofs.Search.run_from.Given as goal

abbrev pub invariant-loop-t : goal.invariant-loop-t
invariant-loop-t l = IfSome l.next (λ i. i < l.children.size)
