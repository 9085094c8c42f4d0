use Rattle.std.proofs.Common.{arith, ap, ◌∙◌}
use Rattle.unpacking.specs.Unpacking.{nodes_in, roots_in}
use Rattle.unpacking.proofs.LoopLaws.{nodes_behind, roots_behind}
use Rattle.unpacking.proofs.OutputLaws.{passed_count, passed_end, sections_count, sections_put}
use Rattle.unpacking.proofs.put_all.Goals as goal

pub overflow_add-a : goal.overflow_add-a
overflow_add-a c = omega (arith, passed_end _ 20 _ c.put_run-a.ensures.is_passed)

pub overflow_mul-a : goal.overflow_mul-a
overflow_mul-a c = omega (arith, passed_count _ 20 _ c.put_run-a.ensures.is_passed)

pub put_run-b-requires : goal.put_run-b-requires
put_run-b-requires c = (
  c.requires,
  omega (arith, passed_end _ 20 _ c.put_run-a.ensures.is_passed),
  ap (λ k. k.owed) c.nodes_left.ensures,
  omega (arith, passed_count _ 20 _ c.put_run-a.ensures.is_passed),
)

pub overflow_add-first : goal.overflow_add-first
overflow_add-first c = omega (arith, passed_count _ 20 _ c.put_run-a.ensures.is_passed, passed_count _ _ _ c.put_run-b.ensures.is_passed)

pub overflow_add-b : goal.overflow_add-b
overflow_add-b c = omega (arith, passed_end _ 20 _ c.put_run-a.ensures.is_passed, passed_end _ _ _ c.put_run-b.ensures.is_passed)

pub overflow_mul-first : goal.overflow_mul-first
overflow_mul-first c = omega (arith, passed_count _ 20 _ c.put_run-a.ensures.is_passed, passed_count _ _ _ c.put_run-b.ensures.is_passed)

pub put_run-c-requires : goal.put_run-c-requires
put_run-c-requires c = (
  c.requires,
  omega (arith, passed_end _ 20 _ c.put_run-a.ensures.is_passed, passed_end _ _ _ c.put_run-b.ensures.is_passed),
  ap (λ k. k.owed) c.roots_left.ensures,
  omega (arith, passed_count _ 20 _ c.put_run-a.ensures.is_passed, passed_count _ _ _ c.put_run-b.ensures.is_passed),
)

pub overflow_add-result : goal.overflow_add-result
overflow_add-result c =
    omega (
      arith,
      passed_count _ 20 _ c.put_run-a.ensures.is_passed,
      passed_count _ _ _ c.put_run-b.ensures.is_passed,
      passed_count _ _ _ c.put_run-c.ensures.is_passed,
    )

pub returns : goal.returns
returns c =
    let nodes = c.nodes_left.ensures ∙ ap (λ r. nodes_in r 0) c.behind.ensures ∙ nodes_behind _ _ in
    let roots = c.roots_left.ensures ∙ ap (λ r. roots_in r 0) c.behind-2.ensures ∙ roots_behind _ _ in
    record {
      count =
          sections_count _ c.registers_left.ensures nodes roots
          c.put_run-a.ensures.is_passed c.put_run-b.ensures.is_passed c.put_run-c.ensures.is_passed;
      output =
          sections_put _ _ c.registers_left.ensures nodes roots
          c.put_run-a.ensures.is_passed c.put_run-b.ensures.is_passed c.put_run-a.ensures.output c.put_run-b.ensures.output c.put_run-c.ensures.output;
    }
