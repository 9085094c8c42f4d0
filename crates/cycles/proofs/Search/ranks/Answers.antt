use Rattle.std.proofs.Common.{refl}
use Rattle.cycles.proofs.RankLaws.{ranks_nothing, ranks_child}
use Rattle.cycles.proofs.Search.ranks.Goals as goal

pub returns-then-c-children : goal.returns-then-c-children
returns-then-c-children c = λ p. ranks_child p _ _ _ _ c.at-c.ensures c.if-c-children.true refl

pub returns-else-c-children : goal.returns-else-c-children
returns-else-c-children c = λ p. ranks_nothing p _ _ _ _ c.at-c.ensures c.if-c-children.false
