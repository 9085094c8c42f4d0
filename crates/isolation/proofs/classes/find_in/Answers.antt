use mathlib.Core.Path.{refl, sym, ◌∙◌}
use Rattle.limits.specs.declared.LimitSet.{LimitSet}
use Rattle.limits.specs.Limits.{limits_of}
use Rattle.isolation.specs.Outcome.{stopped}
use Rattle.isolation.proofs.AnswerLaws.{file_refused}
use Rattle.isolation.proofs.ClassesLaws.{unread_short, given_answer, given_refused}
use Rattle.isolation.proofs.FoundLaws.{within_same}
use Rattle.isolation.proofs.classes.find_in.Goals as goal

pub returns-then-unread-names : goal.returns-then-unread-names
unfolding limits_of
returns-then-unread-names c = record {
  unread_after = unread_short LimitSet.Library _ _ _ _ _ c.if-unread-names.true;
  rows_within = tt;
}

pub shape_of-keys-in-Done : goal.shape_of-keys-in-Done
shape_of-keys-in-Done c = c.keys-1.given

pub shape_of-kinds-in-Done : goal.shape_of-kinds-in-Done
shape_of-kinds-in-Done c = c.kinds-1.given

pub shape_of-index-in-Done : goal.shape_of-index-in-Done
shape_of-index-in-Done c = c.index-1.given

pub shape_of-names-in-Done : goal.shape_of-names-in-Done
shape_of-names-in-Done c = c.names-1.given

pub shape_of-wanted-in-Done : goal.shape_of-wanted-in-Done
shape_of-wanted-in-Done c = c.wanted-in-Done-1.given ∙ c.wanted-1.given

pub shape_of-places-in-Done : goal.shape_of-places-in-Done
shape_of-places-in-Done c = c.places-in-Done-1.given ∙ c.places-1.given

pub shape_of-node_index-in-Done : goal.shape_of-node_index-in-Done
shape_of-node_index-in-Done c = c.node_index-1.given

pub shape_of-child-in-Done : goal.shape_of-child-in-Done
shape_of-child-in-Done c = c.child-1.given

pub shape_of-unread-in-Done : goal.shape_of-unread-in-Done
shape_of-unread-in-Done c = c.unread-in-Done-1.given ∙ c.unread-1.given

pub returns-in-Done : goal.returns-in-Done
unfolding limits_of
returns-in-Done c =
    let y = c.examine_in-e.ensures.examined _ c.in-Done.is in
    record {
      unread_after = given_answer LimitSet.Library _ _ _ _ _ c.if-unread-names.false _ c.examine_in-e.ensures.result_value c.in-Done.is y _ _ c.wanted-1.given c.unread-1.given (c.find_by.ensures.unread_after LimitSet.Library y);
      rows_within = within_same c.find_by.result _ _ _ _ (sym c.places-1.given) (sym c.unread-1.given) c.find_by.ensures.rows_within;
    }

pub returns-in-Refused : goal.returns-in-Refused
unfolding limits_of
returns-in-Refused c = record {
  unread_after = given_refused LimitSet.Library _ _ _ _ _ c.if-unread-names.false _ c.examine_in-e.ensures.result_value c.in-Refused.is stopped refl (file_refused LimitSet.Library _ _ _ _ _);
  rows_within = tt;
}
