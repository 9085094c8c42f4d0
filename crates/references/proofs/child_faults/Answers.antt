use mathlib.Core.Path.{refl, sym, ◌∙◌, ap}
use Rattle.format.proofs.ParsedLaws.{never}
use Rattle.fields.specs.Views.{next_parsed}
use Rattle.links.proofs.RowLaws.{going_begin, going_next, going_end}
use Rattle.links.proofs.ChildrenLaws.{linked_none}
use Rattle.references.proofs.JudgingLaws.{judging_begin, judging_next, judging_refused, judging_end}
use Rattle.references.proofs.PartsLaws.{child_put}
use Rattle.references.proofs.child_faults.Goals as goal

pub loop-left-init : goal.loop-left-init
loop-left-init c = (refl, λ i. judging_begin _ _ _ _, λ i. going_begin _ _ _ _)

pub shape_of-child-in-Refused : goal.shape_of-child-in-Refused
shape_of-child-in-Refused c = c.child-1.given ∙ c.loop-left.invariant.0

pub returns-in-Refused : goal.returns-in-Refused
returns-in-Refused c = record {
  result_value = λ i. judging_refused _ _ (c.loop-left.invariant.1 i) c.loop-left-test.true
      (λ before a m e. sym (ap next_parsed c.in-Refused.is) ∙ c.child_fault-f.ensures.result_value i before a m e);
  by_index = λ after e i ks m d. never (ap next_parsed e);
}

pub loop-left-preserved : goal.loop-left-preserved
loop-left-preserved c = (
  c.child-1.given ∙ c.loop-left.invariant.0,
  λ i. judging_next _ _ (c.loop-left.invariant.1 i) c.loop-left-test.true (λ before a m e. sym (ap next_parsed c.in-Next.is) ∙ c.child_fault-f.ensures.result_value i before a m e),
  λ i. going_next _ _ (c.loop-left.invariant.2 i) c.loop-left-test.true _
      (λ before a m e. child_put _ _ _ a m (sym (ap next_parsed c.in-Next.is) ∙ c.child_fault-f.ensures.result_value i before a m e) (c.child_fault-f.ensures.by_index _ c.in-Next.is i before a m e)),
)

pub shape_of-child : goal.shape_of-child
shape_of-child c = c.loop-left.invariant.0

pub returns : goal.returns
returns c = record {
  result_value = λ i. judging_end _ _ (c.loop-left.invariant.1 i) c.loop-left-test.false;
  by_index = λ after e i ks m d. linked_none _ _ _ ∙ going_end _ _ (c.loop-left.invariant.2 i) c.loop-left-test.false ks m d;
}
