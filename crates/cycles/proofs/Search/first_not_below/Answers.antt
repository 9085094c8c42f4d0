use Rattle.std.proofs.Common.{sym, ◌∙◌, below_more, arith}
use Rattle.cycles.proofs.FirstLaws.{first_at, first_none}
use Rattle.cycles.proofs.Search.first_not_below.Goals as goal

pub returns-then-not_below : goal.returns-then-not_below
returns-then-not_below c = first_at _ _ _ c.loop-k-test.true c.loop-k.invariant (sym c.not_below.ensures ∙ c.if-not_below.true)

pub loop-k-preserved : goal.loop-k-preserved
loop-k-preserved c = below_more _ _ c.loop-k.invariant (sym c.not_below.ensures ∙ c.if-not_below.false)

pub returns : goal.returns
returns c = first_none _ _ (λ j h. c.loop-k.invariant j (omega arith))
