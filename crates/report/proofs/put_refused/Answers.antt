use native.Mathlib.Omega.{arith}
use Rattle.report.specs.Text.{refused_word, place_word, line_end, refused_line}
use Rattle.report.proofs.TextLaws.{put_then}
use Rattle.report.proofs.put_refused.Goals as goal

pub put_named-b-requires : goal.put_named-b-requires
put_named-b-requires c = (omega (arith, c.put_named-a.ensures.upper_bound), omega arith)

pub put-requires : goal.put-requires
put-requires c = omega (arith, c.put_named-b.ensures.upper_bound, c.put_named-a.ensures.upper_bound)

pub returns : goal.returns
unfolding refused_line refused_word place_word line_end
returns c = record {
  put = put_then c.put_named-a.ensures.put (put_then c.put_named-b.ensures.put c.put.ensures);
  upper_bound = omega (arith, c.put.ensures.place, c.put_named-a.ensures.upper_bound, c.put_named-b.ensures.upper_bound);
}
