use Rattle.std.proofs.Common.{◌≡◌, sym, ◌∙◌, arith}
use Rattle.graph.proofs.BelowLaws.{any_in}
use Rattle.cycles.proofs.TestsLaws.{any_none, any_more, any_end}
use Rattle.cycles.proofs.Children.closes.Goals as goal

pub loop-j-init : goal.loop-j-init
loop-j-init c = any_none _

pub returns-then-done_parent : goal.returns-then-done_parent
returns-then-done_parent c = sym (any_in _ _ _ c.loop-j-test.true (sym c.done_parent.ensures ∙ c.if-done_parent.true))

pub loop-j-preserved : goal.loop-j-preserved
loop-j-preserved c = any_more _ _ c.loop-j.invariant (sym c.done_parent.ensures ∙ c.if-done_parent.false)

pub returns : goal.returns
returns c =
    let all : c.loop-j.j ≡ c.args.self.now.size = omega arith in
    any_end _ c.loop-j.invariant all
