use native.Mathlib.Omega.{arith}
use Rattle.report.proofs.TextLaws.{put_from}
use Rattle.report.proofs.+report_with.Goals as goal

pub returns-then-larger-lt3 : goal.returns-then-larger-lt3
returns-then-larger-lt3 t c = record { put = c.report_full.ensures.put; upper_bound = c.report_full.ensures.upper_bound }

pub returns-then-n-gt0 : goal.returns-then-n-gt0
returns-then-n-gt0 t c = record {
  put = c.report_short-n.ensures.put c.if-n-gt0.true;
  upper_bound = c.report_short-n.ensures.upper_bound;
}

pub overflow_sub-larger : goal.overflow_sub-larger
overflow_sub-larger t c = omega arith

pub report_with-requires : goal.report_with-requires
report_with-requires t c = (omega arith, tt)

pub returns : goal.returns
returns t c = record {
  put = put_from (c.report_short-n.ensures.text_unchanged (omega (arith, c.if-n-gt0.false))) c.report_with.ensures.put;
  upper_bound = c.report_with.ensures.upper_bound;
}
