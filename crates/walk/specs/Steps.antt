-- The walk's steps one after another (document 01).
use Rattle.std.specs.Prelude.{ℕ, zero, suc, ◌<◌, true, false, List, ◌≡◌}
use Rattle.graph.specs.Chains.{Graph}
use Rattle.walk.specs.declared.Walked.{Walked}
use Rattle.walk.specs.Marks.{stepped, started, waits}

-- The marks after so many steps "from the start (root waiting, others untouched)".
unfoldable pub marks_after : Graph → ℕ → ℕ → List ℕ
marks_after g root zero = started root
marks_after g root (suc n) = stepped g (marks_after g root n)

-- "The step count is the number of steps from the start .. until none waits": w has it, and the marks at the end.
pub record StepCount (g : Graph) (root : ℕ) (w : Walked) : Type 0 where
  -- The marks are those after that many steps.
  pub marks : w.marks ≡ marks_after g root w.steps
  -- None of the graph's node instances waits then.
  pub ended : waits g (marks_after g root w.steps) ≡ false
  -- After every smaller number of steps one waits.
  pub going : (n : ℕ) → n < w.steps → waits g (marks_after g root n) ≡ true
