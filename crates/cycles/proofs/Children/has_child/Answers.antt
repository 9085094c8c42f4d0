use Rattle.std.proofs.Common.{◌≡◌, sym, ◌∙◌, arith}
use Rattle.cycles.proofs.TableLaws.{edge_in, edge_any}
use Rattle.cycles.proofs.TestsLaws.{any_none, any_more, any_end}
use Rattle.cycles.proofs.Children.has_child.Goals as goal

pub loop-b-init : goal.loop-b-init
loop-b-init c = any_none _

pub returns-then-names : goal.returns-then-names
returns-then-names c = sym (edge_in _ _ _ _ _ c.requires.0 c.loop-b-test.true (sym c.names.ensures ∙ c.if-names.true))

pub loop-b-preserved : goal.loop-b-preserved
loop-b-preserved c = any_more _ _ c.loop-b.invariant (sym c.names.ensures ∙ c.if-names.false)

pub returns : goal.returns
returns c =
    let all : c.loop-b.b ≡ 64 = omega arith in
    any_end _ c.loop-b.invariant all ∙ edge_any _ _ _ _ c.requires.0
