use mathlib.Core.Path.{refl, ◌∙◌}
use native.Mathlib.Omega.{arith}
use Rattle.expressions.proofs.OpeningLaws.{unsaid}
use Rattle.index.proofs.FillingLaws.{sized_put}
use Rattle.node_pass.proofs.InstanceLaws.{instances_begin, instances_next, instances_end}
use Rattle.node_pass.proofs.instances_pass.Goals as goal

pub loop-left-init : goal.loop-left-init
loop-left-init c = (record { keys = refl; kinds = refl; places = refl }, refl, c.requires.1, λ i. instances_begin _ _ _ _ _ _ _ _ _ _ _)

pub shape_of-names-then-i-eq0 : goal.shape_of-names-then-i-eq0
shape_of-names-then-i-eq0 c = c.loop-left.invariant.0.keys

pub shape_of-wanted-then-i-eq0 : goal.shape_of-wanted-then-i-eq0
shape_of-wanted-then-i-eq0 c = c.loop-left.invariant.0.kinds

pub shape_of-places-then-i-eq0 : goal.shape_of-places-then-i-eq0
shape_of-places-then-i-eq0 c = c.loop-left.invariant.0.places

pub shape_of-children-then-i-eq0 : goal.shape_of-children-then-i-eq0
shape_of-children-then-i-eq0 c = c.loop-left.invariant.1

pub returns-then-i-eq0 : goal.returns-then-i-eq0
returns-then-i-eq0 c = λ i. unsaid

pub overflow_add-begun : goal.overflow_add-begun
overflow_add-begun c = omega (arith, c.loop-left.invariant.2, c.loop-left-test.true)

pub loop-left-preserved : goal.loop-left-preserved
loop-left-preserved c = (
  sized_put _ _ _ _ c.loop-left.invariant.0 c.put_row.ensures,
  c.children-1.given ∙ c.loop-left.invariant.1,
  omega arith,
  λ x. instances_next _ _ _ _ _ _ _ _ _ _ _ (c.loop-left.invariant.3 x) (c.instance_pass-i.ensures x c.if-i-eq0.false) c.loop-left-test.true (omega arith) c.key.ensures c.put_row.ensures c.put.ensures c.both-fits.ensures (omega arith),
)

pub shape_of-names : goal.shape_of-names
shape_of-names c = c.loop-left.invariant.0.keys

pub shape_of-wanted : goal.shape_of-wanted
shape_of-wanted c = c.loop-left.invariant.0.kinds

pub shape_of-places : goal.shape_of-places
shape_of-places c = c.loop-left.invariant.0.places

pub shape_of-children : goal.shape_of-children
shape_of-children c = c.loop-left.invariant.1

pub returns : goal.returns
returns c = λ x z. instances_end _ _ _ _ _ _ _ _ _ _ _ (c.loop-left.invariant.3 x) c.loop-left-test.false refl refl
