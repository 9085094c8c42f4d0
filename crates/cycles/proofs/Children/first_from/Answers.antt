use Rattle.std.proofs.Common.{sym, ◌∙◌, below_more, arith}
use Rattle.cycles.proofs.FirstLaws.{first_at, first_none}
use Rattle.cycles.proofs.Children.first_from.Goals as goal

pub loop-i-init : goal.loop-i-init
loop-i-init c = c.requires.1

pub returns-then-on_cycle : goal.returns-then-on_cycle
returns-then-on_cycle c = first_at _ _ _ c.loop-i-test.true c.loop-i.invariant (sym c.on_cycle.ensures ∙ c.if-on_cycle.true)

pub loop-i-preserved : goal.loop-i-preserved
loop-i-preserved c = below_more _ _ c.loop-i.invariant (sym c.on_cycle.ensures ∙ c.if-on_cycle.false)

pub returns : goal.returns
returns c = first_none _ _ (λ k h. c.loop-i.invariant k (omega arith))
