use native.Mathlib.Omega.{arith}
use Rattle.report.specs.Text.{named}
use Rattle.report.proofs.DecimalLaws.{decimal_few}
use Rattle.report.proofs.TextLaws.{put_then}
use Rattle.report.proofs.put_named.Goals as goal

pub returns : goal.returns
unfolding named
returns c = record {
  put = put_then c.put-after.ensures c.put_number.ensures;
  upper_bound = omega (arith, c.requires.0, c.requires.1, c.put-after.ensures.place, c.put_number.ensures.place, decimal_few c.args.n);
}
