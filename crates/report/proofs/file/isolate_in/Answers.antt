use mathlib.Core.Path.{refl, ◌∙◌}
use native.Mathlib.Omega.{arith}
use Rattle.limits.specs.declared.LimitSet.{LimitSet}
use Rattle.limits.specs.Limits.{limits_of}
use Rattle.isolation.specs.Outcome.{refused_outcome}
use Rattle.isolation.proofs.ClassesLaws.{unread_short, given_answer, given_refused}
use Rattle.report.proofs.FileLaws.{answer_file, readings_room, readings_short, readings_in, both_in}
use Rattle.report.proofs.file.isolate_in.Goals as goal

pub returns-then-not-both_fit : goal.returns-then-not-both_fit
unfolding limits_of
returns-then-not-both_fit c = readings_short _ _ _ c.both_fit.ensures _ _ _ c.if-not-both_fit.true

pub returns-then-unread-names : goal.returns-then-unread-names
unfolding limits_of
returns-then-unread-names c = readings_room _ _ _ c.both_fit.ensures _ _ _ c.if-not-both_fit.false (unread_short LimitSet.Program _ _ _ _ _ c.if-unread-names.true)

pub shape_of-list : goal.shape_of-list
shape_of-list c = c.list-1.given

pub shape_of-keys-in-Done : goal.shape_of-keys-in-Done
shape_of-keys-in-Done c = c.keys-1.given

pub shape_of-kinds-in-Done : goal.shape_of-kinds-in-Done
shape_of-kinds-in-Done c = c.kinds-1.given

pub shape_of-index-in-Done : goal.shape_of-index-in-Done
shape_of-index-in-Done c = c.index-1.given

pub shape_of-names-in-Done : goal.shape_of-names-in-Done
shape_of-names-in-Done c = c.names-1.given

pub shape_of-wanted-in-Done : goal.shape_of-wanted-in-Done
shape_of-wanted-in-Done c = c.wanted-in-Done-1.given ∙ c.wanted-1.given

pub shape_of-places-in-Done : goal.shape_of-places-in-Done
shape_of-places-in-Done c = c.places-in-Done-1.given ∙ c.places-1.given

pub shape_of-node_index-in-Done : goal.shape_of-node_index-in-Done
shape_of-node_index-in-Done c = c.node_index-1.given

pub shape_of-child-in-Done : goal.shape_of-child-in-Done
shape_of-child-in-Done c = c.child-1.given

pub shape_of-unread-in-Done : goal.shape_of-unread-in-Done
shape_of-unread-in-Done c = c.unread-in-Done-1.given ∙ c.unread-1.given

pub shape_of-words : goal.shape_of-words
shape_of-words c = c.words-1.given

pub shape_of-read : goal.shape_of-read
shape_of-read c = c.read-1.given

pub returns-in-Done : goal.returns-in-Done
unfolding limits_of
returns-in-Done c =
    let y = c.examine_in-e.ensures.examined _ c.in-Done.is in
    let h = c.if-not-both_fit.false in
    let b = both_in _ _ _ c.both_fit.ensures h in
    readings_room _ _ _ c.both_fit.ensures _ _ _ h
    (given_answer LimitSet.Program _ _ _ _ _ c.if-unread-names.false _ c.examine_in-e.ensures.result_value c.in-Done.is y _ _ c.wanted-1.given c.unread-1.given
    (readings_in _ _ _ (omega (arith, b.0, c.keys-1.given, y.registers-in)) (omega (arith, b.1, c.keys-1.given, y.registers-in)) _ _ _ (c.isolate_named.ensures LimitSet.Program y)))

pub shape_of-keys-in-Refused : goal.shape_of-keys-in-Refused
shape_of-keys-in-Refused c = c.keys-1.given

pub shape_of-kinds-in-Refused : goal.shape_of-kinds-in-Refused
shape_of-kinds-in-Refused c = c.kinds-1.given

pub shape_of-index-in-Refused : goal.shape_of-index-in-Refused
shape_of-index-in-Refused c = c.index-1.given

pub shape_of-names-in-Refused : goal.shape_of-names-in-Refused
shape_of-names-in-Refused c = c.names-1.given

pub shape_of-wanted-in-Refused : goal.shape_of-wanted-in-Refused
shape_of-wanted-in-Refused c = c.wanted-1.given

pub shape_of-places-in-Refused : goal.shape_of-places-in-Refused
shape_of-places-in-Refused c = c.places-1.given

pub shape_of-node_index-in-Refused : goal.shape_of-node_index-in-Refused
shape_of-node_index-in-Refused c = c.node_index-1.given

pub shape_of-child-in-Refused : goal.shape_of-child-in-Refused
shape_of-child-in-Refused c = c.child-1.given

pub shape_of-unread-in-Refused : goal.shape_of-unread-in-Refused
shape_of-unread-in-Refused c = c.unread-1.given

pub returns-in-Refused : goal.returns-in-Refused
unfolding limits_of
returns-in-Refused c =
    readings_room _ _ _ c.both_fit.ensures _ _ _ c.if-not-both_fit.false
    (given_refused LimitSet.Program _ _ _ _ _ c.if-unread-names.false _ c.examine_in-e.ensures.result_value c.in-Refused.is (λ n p. refused_outcome n p c.args.list.now) refl (answer_file _ _ _ _ _))
