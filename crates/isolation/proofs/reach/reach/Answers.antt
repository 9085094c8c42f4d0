use mathlib.Core.Path.{refl, ◌∙◌}
use native.Mathlib.Omega.{arith}
use Rattle.walk.specs.Marks.{step_walk}
use Rattle.walk.proofs.Step.{state_marks, state_words}
use Rattle.isolation.proofs.ReachLaws.{taken_start, taken_step, taken_end, taken_full}
use Rattle.isolation.proofs.reach.reach.Goals as goal

pub loop-steps-init : goal.loop-steps-init
loop-steps-init c = (refl, refl, state_words _ c.start-w.ensures, λ of nodes t a u h. taken_start of _ (λ i. (c.type_inv.s i).fits) _ _ _ _ _ nodes _ _ t _ h (state_marks c.start-w.ensures) _ _)

pub shape_of-active-then-n-k : goal.shape_of-active-then-n-k
shape_of-active-then-n-k c = c.loop-steps.invariant.0

pub shape_of-unread-then-n-k : goal.shape_of-unread-then-n-k
shape_of-unread-then-n-k c = c.loop-steps.invariant.1

pub returns-then-n-k : goal.returns-then-n-k
returns-then-n-k c = λ of nodes t a u h. taken_end of _ (λ i. (c.type_inv.s i).fits) _ _ _ _ _ nodes _ _ t _ h (c.loop-steps.invariant.3 of nodes t a u h) (omega (arith, c.if-n-k.true, c.first-k.ensures c.loop-steps.invariant.2))

pub loop-steps-preserved : goal.loop-steps-preserved
unfolding step_walk
loop-steps-preserved c = (
  c.active-1.given ∙ c.loop-steps.invariant.0,
  c.unread-1.given ∙ c.loop-steps.invariant.1,
  state_words _ (c.step-w.ensures c.loop-steps.invariant.2),
  λ of nodes t a u h.
      taken_step of _ (λ i. (c.type_inv.s i).fits) _ _ _ _ _ nodes _ _ t _ h (c.loop-steps.invariant.3 of nodes t a u h) (c.first-k.ensures c.loop-steps.invariant.2) c.if-n-k.false (c.loop-steps.invariant.0 ∙ a) (c.loop-steps.invariant.1 ∙ u)
      (c.activity_at-a.ensures t.indexed of) c.put.ensures c.put-in-loop-steps.ensures (state_marks (c.step-w.ensures c.loop-steps.invariant.2)),
)

pub shape_of-active : goal.shape_of-active
shape_of-active c = c.loop-steps.invariant.0

pub shape_of-unread : goal.shape_of-unread
shape_of-unread c = c.loop-steps.invariant.1

pub returns : goal.returns
returns c = λ of nodes t a u h. taken_full of _ (λ i. (c.type_inv.s i).fits) _ _ _ _ _ nodes _ _ t _ h (c.loop-steps.invariant.3 of nodes t a u h) c.loop-steps-test.false
