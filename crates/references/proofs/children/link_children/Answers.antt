use mathlib.Core.Path.{refl, ◌∙◌}
use native.Mathlib.Omega.{arith}
use Rattle.numbers.proofs.Bools.{clash}
use Rattle.references.proofs.LinkingLaws.{linking_begin, linking_next, linking_end}
use Rattle.references.proofs.children.link_children.Goals as goal

pub loop-i-init : goal.loop-i-init
loop-i-init c = (refl, λ i. linking_begin _ _ _ _)

pub shape_of-child-then-not-linked : goal.shape_of-child-then-not-linked
shape_of-child-then-not-linked c = c.child-1.given ∙ c.loop-i.invariant.0

pub returns-then-not-linked : goal.returns-then-not-linked
returns-then-not-linked c = λ i e. clash e refl

pub overflow_add-k : goal.overflow_add-k
overflow_add-k c = omega (arith, c.link_row-linked.ensures.k_in_bounds c.if-not-linked.false)

pub loop-i-preserved : goal.loop-i-preserved
loop-i-preserved c = (
  c.child-1.given ∙ c.loop-i.invariant.0,
  λ i. linking_next _ _ _ (c.loop-i.invariant.1 i) (λ j. (c.type_inv.s j).fits) c.loop-i-test.true
      (c.link_row-linked.ensures.ks_value i c.if-not-linked.false),
)

pub shape_of-child : goal.shape_of-child
shape_of-child c = c.loop-i.invariant.0

pub returns : goal.returns
returns c = λ i e. linking_end _ _ _ (c.loop-i.invariant.1 i) c.loop-i-test.false
