-- The walk over two tables from start to end, in the code's own terms.
use mathlib.Core.Path.{◌≡◌, sym, ◌∙◌, subst}
use mathlib.Core.Bool.{Bool, true, false}
use mathlib.Core.List.{List}
use Prim.Native.Nat.{ℕ, ◌+◌, ◌≤◌, ◌<◌}
use native.Mathlib.Omega.{arith}
use lib.Dec.{ltb}
use Rattle.walk.specs.declared.Walked.{Walked}
use Rattle.walk.specs.TableGraph.{table_size, table_graph}
use Rattle.walk.specs.Marks.{mark_count, first_waiting, waits, started, stepped, finished}
use Rattle.walk.specs.Steps.{StepCount}
use Rattle.walk.proofs.Tables.{size_few, table_sound}
use Rattle.walk.proofs.WalkLaws.{Walking, walked_start, walked_step, walked_less, walked_end, walked_steps, finished_nowhere, steps_nowhere, same_walked}
use Rattle.walk.proofs.StepsLaws.{step_count}

table_few : (act ch : List ℕ) → (table_graph act ch).size ≤ mark_count
unfolding table_graph
table_few act ch = (size_few act).0

-- A walk that has come to its end took as many steps as its count says.
pub run_counted : (act ch : List ℕ) (root : ℕ) {w : Walked} → w ≡ finished (table_graph act ch) root
    → (w ≡ finished (table_graph act ch) root) × StepCount (table_graph act ch) root w
run_counted act ch root e = (e, subst (StepCount _ root) (sym e) (step_count (table_graph act ch) (table_sound act ch) (table_few act ch) root))

module _ (act ch : List ℕ) (root n : ℕ) (size : n ≡ table_size act) where
  size_of : n ≡ (table_graph act ch).size
  unfolding table_graph
  size_of = size

  -- A root that the tables do not have.
  pub run_nowhere : {m : List ℕ} → n ≤ root → m ≡ started root → ◌≡◌ {A = Walked} (record { marks = m; steps = 0 }) (finished (table_graph act ch) root)
  run_nowhere l e =
      let g = table_graph act ch in
      let k : g.size ≤ root = omega (arith, size_of) in
      same_walked (e ∙ finished_nowhere g root k) (steps_nowhere g root k)

  module _ (root_in : root < n) where
    inside : root < (table_graph act ch).size
    inside = omega (arith, size_of)

    waits_of : (m : List ℕ) {t r : Bool} → t ≡ ltb (first_waiting m) n → t ≡ r → waits (table_graph act ch) m ≡ r
    unfolding table_graph waits
    waits_of m e d = rw (← size) (sym e ∙ d)

    pub run_start : {m : List ℕ} → m ≡ started root → Walking (table_graph act ch) root m 0
    run_start e = rw e (walked_start (table_graph act ch) root inside (table_few act ch))

    module _ {m : List ℕ} {s : ℕ} (w : Walking (table_graph act ch) root m s) {t : Bool} (e : t ≡ ltb (first_waiting m) n) where
      pub run_ready : t ≡ true → s < n
      run_ready y =
          omega (arith, size_of, walked_less (table_graph act ch) (table_sound act ch) root inside m s w (waits_of m e y))

      pub run_step : t ≡ true → {m' : List ℕ} → m' ≡ stepped (table_graph act ch) m → Walking (table_graph act ch) root m' (s + 1)
      run_step y p = rw p (walked_step (table_graph act ch) (table_sound act ch) root inside m s w (waits_of m e y))

      pub run_end : t ≡ false → ◌≡◌ {A = Walked} (record { marks = m; steps = s }) (finished (table_graph act ch) root)
      run_end y =
          let g = table_graph act ch in
          same_walked (walked_end g (table_sound act ch) root inside m s w (waits_of m e y))
          (walked_steps g (table_sound act ch) root inside m s w (waits_of m e y))
