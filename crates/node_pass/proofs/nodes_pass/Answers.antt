use mathlib.Core.Path.{refl, ◌∙◌}
use native.Mathlib.Omega.{arith}
use Rattle.expressions.proofs.OpeningLaws.{unsaid}
use Rattle.node_pass.proofs.NodeLaws.{nodes_begin, nodes_next, nodes_end}
use Rattle.node_pass.proofs.nodes_pass.Goals as goal

pub loop-left-init : goal.loop-left-init
loop-left-init c = (record { keys = refl; kinds = refl; places = refl }, refl, omega arith, λ i. nodes_begin _ _ _ _ _ _ _ _)

pub shape_of-names-then-count-eq0 : goal.shape_of-names-then-count-eq0
shape_of-names-then-count-eq0 c = c.loop-left.invariant.0.keys

pub shape_of-wanted-then-count-eq0 : goal.shape_of-wanted-then-count-eq0
shape_of-wanted-then-count-eq0 c = c.loop-left.invariant.0.kinds

pub shape_of-places-then-count-eq0 : goal.shape_of-places-then-count-eq0
shape_of-places-then-count-eq0 c = c.loop-left.invariant.0.places

pub shape_of-children-then-count-eq0 : goal.shape_of-children-then-count-eq0
shape_of-children-then-count-eq0 c = c.loop-left.invariant.1

pub returns-then-count-eq0 : goal.returns-then-count-eq0
returns-then-count-eq0 c = λ i. unsaid

pub overflow_sub-limit : goal.overflow_sub-limit
overflow_sub-limit c = omega (arith, c.loop-left.invariant.2)

pub shape_of-names-then-limit-total : goal.shape_of-names-then-limit-total
shape_of-names-then-limit-total c = c.loop-left.invariant.0.keys

pub shape_of-wanted-then-limit-total : goal.shape_of-wanted-then-limit-total
shape_of-wanted-then-limit-total c = c.loop-left.invariant.0.kinds

pub shape_of-places-then-limit-total : goal.shape_of-places-then-limit-total
shape_of-places-then-limit-total c = c.loop-left.invariant.0.places

pub shape_of-children-then-limit-total : goal.shape_of-children-then-limit-total
shape_of-children-then-limit-total c = c.loop-left.invariant.1

pub returns-then-limit-total : goal.returns-then-limit-total
returns-then-limit-total c = λ i. unsaid

pub overflow_add-place : goal.overflow_add-place
overflow_add-place c = omega (arith, (c.head_pass-h.ensures c.if-count-eq0.false).within, c.requires)

pub instances_pass-p-requires : goal.instances_pass-p-requires
instances_pass-p-requires c =
    (c.requires, omega (arith, c.loop-left.invariant.2))

pub shape_of-names-then-p-eq0 : goal.shape_of-names-then-p-eq0
shape_of-names-then-p-eq0 c = c.names-1.given ∙ c.loop-left.invariant.0.keys

pub shape_of-wanted-then-p-eq0 : goal.shape_of-wanted-then-p-eq0
shape_of-wanted-then-p-eq0 c = c.wanted-1.given ∙ c.loop-left.invariant.0.kinds

pub shape_of-places-then-p-eq0 : goal.shape_of-places-then-p-eq0
shape_of-places-then-p-eq0 c = c.places-1.given ∙ c.loop-left.invariant.0.places

pub shape_of-children-then-p-eq0 : goal.shape_of-children-then-p-eq0
shape_of-children-then-p-eq0 c = c.children-1.given ∙ c.loop-left.invariant.1

pub returns-then-p-eq0 : goal.returns-then-p-eq0
returns-then-p-eq0 c = λ i. unsaid

pub overflow_add-bound : goal.overflow_add-bound
overflow_add-bound c = omega (arith, (c.head_pass-h.ensures c.if-count-eq0.false).small)

pub overflow_add-total : goal.overflow_add-total
overflow_add-total c = omega (arith, c.loop-left.invariant.2)

pub loop-left-preserved : goal.loop-left-preserved
loop-left-preserved c = (
  record { keys = c.names-1.given ∙ c.loop-left.invariant.0.keys; kinds = c.wanted-1.given ∙ c.loop-left.invariant.0.kinds; places = c.places-1.given ∙ c.loop-left.invariant.0.places },
  c.children-1.given ∙ c.loop-left.invariant.1,
  omega (arith, c.loop-left.invariant.2),
  λ x. nodes_next _ _ _ _ _ _ _ _ (c.loop-left.invariant.3 x) (c.head_pass-h.ensures c.if-count-eq0.false) (c.instances_pass-p.ensures x c.if-p-eq0.false) c.loop-left-test.true c.both-fits.ensures (omega arith),
)

pub shape_of-names : goal.shape_of-names
shape_of-names c = c.loop-left.invariant.0.keys

pub shape_of-wanted : goal.shape_of-wanted
shape_of-wanted c = c.loop-left.invariant.0.kinds

pub shape_of-places : goal.shape_of-places
shape_of-places c = c.loop-left.invariant.0.places

pub shape_of-children : goal.shape_of-children
shape_of-children c = c.loop-left.invariant.1

pub returns : goal.returns
returns c = λ x z. nodes_end _ _ _ _ _ _ _ _ (c.loop-left.invariant.3 x) c.loop-left-test.false refl refl refl
