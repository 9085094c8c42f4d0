use mathlib.Core.Path.{sym, ◌∙◌, ap}
use native.Mathlib.Omega.{arith}
use Rattle.format.proofs.NumberedLaws.{kind_some}
use Rattle.isolation.specs.Outcome.{outcome_of}
use Rattle.report.specs.Text.{refused_line}
use Rattle.report.proofs.TextLaws.{put_as, done_text, refused_text}
use Rattle.report.proofs.put_answer.Goals as goal

pub put_done-requires : goal.put_done-requires
put_done-requires c =
    let e = ap (λ a. (outcome_of a c.args.list.now).records) c.in-Ok.is in
    (omega (arith, e, c.requires.0), omega (arith, e, c.requires.1))

pub returns-in-Ok : goal.returns-in-Ok
returns-in-Ok c = record {
  put = put_as c.put_done.ensures.put (done_text (sym (ap (λ a. outcome_of a c.args.list.now) c.in-Ok.is)));
  upper_bound = c.put_done.ensures.upper_bound;
}

pub returns-in-Err : goal.returns-in-Err
returns-in-Err c = record {
  put = put_as c.put_refused.ensures.put (ap (λ n. refused_line n c.in-Err.r.place) c.number.ensures ∙ refused_text (kind_some c.in-Err.r.kind) (sym (ap (λ a. outcome_of a c.args.list.now) c.in-Err.is)));
  upper_bound = c.put_refused.ensures.upper_bound;
}
