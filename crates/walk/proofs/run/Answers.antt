use native.Mathlib.Omega.{arith}
use Rattle.walk.specs.Marks.{step_walk}
use Rattle.walk.proofs.Step.{state_marks, state_words}
use Rattle.walk.proofs.RunLaws.{run_counted, run_nowhere, run_start, run_ready, run_step, run_end}
use Rattle.walk.proofs.run.Goals as goal

pub loop-w-init : goal.loop-w-init
loop-w-init c =
    (run_start _ _ _ _ c.size-n.ensures c.if-n-root.false (state_marks c.start-w.ensures), state_words _ c.start-w.ensures)

pub overflow_add-steps : goal.overflow_add-steps
overflow_add-steps c =
    let r = run_ready _ _ _ _ c.size-n.ensures c.if-n-root.false c.loop-w.invariant.0 (c.waiting.ensures c.loop-w.invariant.1) c.loop-w-test.true in
    omega (arith, r)

pub loop-w-smaller : goal.loop-w-smaller
loop-w-smaller c =
    let r = run_ready _ _ _ _ c.size-n.ensures c.if-n-root.false c.loop-w.invariant.0 (c.waiting.ensures c.loop-w.invariant.1) c.loop-w-test.true in
    omega (arith, r)

pub loop-w-preserved : goal.loop-w-preserved
unfolding step_walk
loop-w-preserved c =
    let s = c.step-w.ensures c.loop-w.invariant.1 in (
      run_step _ _ _ _ c.size-n.ensures c.if-n-root.false c.loop-w.invariant.0 (c.waiting.ensures c.loop-w.invariant.1) c.loop-w-test.true (state_marks s),
      state_words _ s,
    )

pub returns-then-n-root : goal.returns-then-n-root
returns-then-n-root c =
    let r = run_counted _ _ _ (run_nowhere _ _ _ _ c.size-n.ensures c.if-n-root.true (state_marks c.start-w.ensures)) in
    record { value = r.0; step_count = r.1 }

pub returns : goal.returns
returns c =
    let r = run_counted _ _ _ (run_end _ _ _ _ c.size-n.ensures c.if-n-root.false c.loop-w.invariant.0 (c.waiting.ensures c.loop-w.invariant.1) c.loop-w-test.false) in
    record { value = r.0; step_count = r.1 }
