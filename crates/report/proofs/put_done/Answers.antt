use native.Mathlib.Omega.{arith}
use Rattle.report.specs.Text.{steps_word, line_end, steps_line}
use Rattle.report.proofs.LineLaws.{lines_short}
use Rattle.report.proofs.TextLaws.{put_then}
use Rattle.report.proofs.put_done.Goals as goal

pub put_named-end-requires : goal.put_named-end-requires
put_named-end-requires c =
    (omega (arith, c.put_records-at.ensures.place, lines_short c.args.records c.args.list.now (λ i. (c.type_inv.list i).fits), c.requires.0), omega arith)

pub put-requires : goal.put-requires
put-requires c =
    omega (arith, c.put_named-end.ensures.upper_bound, c.put_records-at.ensures.place, lines_short c.args.records c.args.list.now (λ i. (c.type_inv.list i).fits), c.requires.0)

pub returns : goal.returns
unfolding steps_line steps_word line_end
returns c = record {
  put = put_then c.put_records-at.ensures (put_then c.put_named-end.ensures.put c.put.ensures);
  upper_bound = omega (arith, c.put.ensures.place, c.put_named-end.ensures.upper_bound, c.put_records-at.ensures.place, lines_short c.args.records c.args.list.now (λ i. (c.type_inv.list i).fits), c.requires.0);
}
