use mathlib.Core.Path.{refl, sym, ◌∙◌}
use native.Mathlib.Omega.{arith}
use borrow.Author.Rules.{rules}
use Rattle.links.proofs.ChildrenLaws.{cleared_whole, cleared_on, cleared_end}
use Rattle.links.proofs.fill.Goals as goal

pub loop-i-init : goal.loop-i-init
loop-i-init c = (refl, cleared_whole _)

pub loop-i-preserved : goal.loop-i-preserved
loop-i-preserved c =
    (search rules, cleared_on _ _ _ refl (omega arith) ∙ c.loop-i.invariant.1)

pub shape_of-part : goal.shape_of-part
shape_of-part c = c.loop-i.invariant.0

pub returns : goal.returns
returns c = sym (cleared_end _ _ _ (omega arith)) ∙ c.loop-i.invariant.1
