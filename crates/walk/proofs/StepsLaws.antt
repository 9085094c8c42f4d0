-- The step count of a walk over any sound graph of at most as many node instances as there are marks.
use mathlib.Core.Path.{◌≡◌, refl, sym, ◌∙◌, ap, subst}
use mathlib.Core.Bool.{true, false}
use mathlib.Core.Logic.{⊎_elim}
use Prim.Native.Nat.{ℕ, zero, suc, ◌+◌, ◌≤◌, ◌<◌}
use native.Mathlib.Omega.{arith}
use native.Mathlib.Numerals.{add-one}
use lib.Dec.{ltb}
use borrow.Author.Tests.{ne_eqb, ltb-true, ltb-false}
use Rattle.numbers.proofs.Bools.{either, clash, same?}
use Rattle.graph.specs.Chains.{Graph, Sound}
use Rattle.walk.specs.declared.Walked.{Walked}
use Rattle.walk.specs.Marks.{mark_count, first_waiting, waits, started, finished}
use Rattle.walk.specs.Steps.{marks_after, StepCount}
use Rattle.walk.proofs.First.{first_waits}
use Rattle.walk.proofs.WalkLaws.{same_walked, Walking, walked_start, walked_step, walked_less, walked_end, walked_steps, started_at, length_started, finished_nowhere, steps_nowhere}

after_none : (g : Graph) (root : ℕ) → marks_after g root 0 ≡ started root
unfolding marks_after
after_none g root = refl

-- There is one step count, and one set of marks at the end.
pub count_alone : (g : Graph) (root : ℕ) {w v : Walked} → StepCount g root w → StepCount g root v → w ≡ v
count_alone g root {w} {v} a b =
    ⊎_elim (λ e. same_walked (a.marks ∙ ap (marks_after g root) e ∙ sym b.marks) e)
    (λ n. ⊎_elim
    (λ l. clash (b.going w.steps (ltb-true _ _ l)) a.ended)
    (λ l. let h : v.steps ≤ w.steps = ltb-false _ _ l in clash (a.going v.steps (omega arith)) b.ended)
    (either (ltb w.steps v.steps)))
    (same? w.steps v.steps)

-- After each of the first n numbers of steps one waits.
abbrev Going : Graph → ℕ → ℕ → Type 0
Going g root n = (k : ℕ) → k < n → waits g (marks_after g root k) ≡ true

module _ (g : Graph) (sound : Sound g) (few : g.size ≤ mark_count) (root : ℕ) where
  module _ (inside : root < g.size) where
    -- As long as one waits, each step keeps the walk's invariant.
    walking : (n : ℕ) → Going g root n → Walking g root (marks_after g root n) n
    unfolding marks_after
    walking zero f = walked_start g root inside few
    walking (suc n) f =
        rw (← add-one n)
        (walked_step g sound root inside (marks_after g root n) n (walking n (λ k l. f k (omega arith))) (f n (omega arith)))

    -- Where one waits until n steps are made and none then, the reached node instances are done and n is their number.
    reached_all : (n : ℕ) → Going g root n → waits g (marks_after g root n) ≡ false → StepCount g root (finished g root)
    reached_all n f none =
        let w = walking n f in
        let s : n ≡ (finished g root).steps = walked_steps g sound root inside (marks_after g root n) n w none in
        record {
          marks = sym (walked_end g sound root inside (marks_after g root n) n w none) ∙ ap (marks_after g root) s;
          ended = subst (λ x. waits g (marks_after g root x) ≡ false) s none;
          going = λ k l. f k (omega (arith, s));
        }

    going_on : (n : ℕ) → Going g root n → waits g (marks_after g root n) ≡ true → Going g root (n + 1)
    going_on n f e k l = ⊎_elim (λ d. rw d e) (λ d. f k (omega arith)) (same? k n)

    -- Every step makes one more node instance done: there are at most as many steps as node instances.
    ends : (left n : ℕ) → g.size ≤ n + left → Going g root n → StepCount g root (finished g root)
    ends zero n h f =
        ⊎_elim (λ e. absurd (omega (arith, walked_less g sound root inside (marks_after g root n) n (walking n f) e))) (reached_all n f) (either (waits g (marks_after g root n)))
    ends (suc left) n h f =
        ⊎_elim (λ e. ends left (n + 1) (omega arith) (going_on n f e)) (reached_all n f) (either (waits g (marks_after g root n)))

  -- A root that the graph does not have: nothing of the graph waits.
  none_waits : g.size ≤ root → waits g (started root) ≡ false
  unfolding waits
  none_waits l =
      ⊎_elim
      (λ e. let h : first_waiting (started root) < g.size = ltb-true _ _ e in
      let i : first_waiting (started root) < mark_count = omega arith in
      let o = first_waits (started root) (omega (arith, length_started root)) in
      let z = rw (ne_eqb (first_waiting (started root)) root (λ d. omega arith)) at (started_at root (first_waiting (started root)) i) in
      absurd (omega (arith, o, z)))
      (λ e. e)
      (either (ltb (first_waiting (started root)) g.size))

  nowhere : g.size ≤ root → StepCount g root (finished g root)
  nowhere l =
      let s : 0 ≡ (finished g root).steps = steps_nowhere g root l in
      record {
        marks = sym (finished_nowhere g root l) ∙ sym (after_none g root) ∙ ap (marks_after g root) s;
        ended = subst (λ x. waits g (marks_after g root x) ≡ false) s (rw (after_none g root) (none_waits l));
        going = λ k h. absurd (omega (arith, s));
      }

  -- The number of the reached node instances is the step count; it is 0 where the graph does not have the root.
  pub step_count : StepCount g root (finished g root)
  step_count =
      ⊎_elim (λ e. ends (ltb-true _ _ e) g.size 0 (omega arith) (λ k l. absurd (omega arith))) (λ e. nowhere (ltb-false _ _ e)) (either (ltb root g.size))
