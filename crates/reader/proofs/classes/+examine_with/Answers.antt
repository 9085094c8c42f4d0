use mathlib.Core.Path.{sym, ◌∙◌}
use native.Mathlib.Omega.{arith}
use Rattle.limits.specs.Classes.{full}
use Rattle.reader.proofs.ClassesLaws.{class_told, full_exact}
use Rattle.reader.proofs.classes.+examine_with.Goals as goal
use Rattle.reader.proofs.classes.+examine_with.Goals.{in-1, in-2, in_default}

pub returns-then-larger-eq0 : goal.returns-then-larger-eq0
returns-then-larger-eq0 t c = record {
  result_value = full_exact _ full (omega arith) (omega arith) _ (λ i. (c.type_inv.s i).fits) c.examine_full.ensures.result_value;
  result_value_2 = c.examine_full.ensures.result_value_2;
}

pub overflow_sub-larger : goal.overflow_sub-larger
overflow_sub-larger t c = omega arith

pub examine_with-requires : goal.examine_with-requires
examine_with-requires t c = (omega arith, tt)

pub returns : goal.returns
returns t c = record { result_value = c.examine_with.ensures.result_value; result_value_2 = c.examine_with.ensures.result_value_2 }

pub returns-then-is_exact-clause-result_value : goal.returns-then-is_exact-clause-result_value
returns-then-is_exact-clause-result_value t c =
    let h = sym c.is_exact.ensures ∙ c.if-is_exact.true in
    elim c.match-larger.branch [
      | in-1 w ↦ (class_told _ _ _ (w.examine_large-e.ensures.result_value, w.examine_large-e.ensures.result_value_2) w.e-is h).0
      | in-2 w ↦ (class_told _ _ _ (w.examine_middle-e.ensures.result_value, w.examine_middle-e.ensures.result_value_2) w.e-is h).0
      | in_default w ↦ (class_told _ _ _ (w.examine_small-e.ensures.result_value, w.examine_small-e.ensures.result_value_2) w.e-is h).0
    ]

pub returns-then-is_exact-clause-result_value_2 : goal.returns-then-is_exact-clause-result_value_2
returns-then-is_exact-clause-result_value_2 t c =
    let h = sym c.is_exact.ensures ∙ c.if-is_exact.true in
    elim c.match-larger.branch [
      | in-1 w ↦ (class_told _ _ _ (w.examine_large-e.ensures.result_value, w.examine_large-e.ensures.result_value_2) w.e-is h).1
      | in-2 w ↦ (class_told _ _ _ (w.examine_middle-e.ensures.result_value, w.examine_middle-e.ensures.result_value_2) w.e-is h).1
      | in_default w ↦ (class_told _ _ _ (w.examine_small-e.ensures.result_value, w.examine_small-e.ensures.result_value_2) w.e-is h).1
    ]
