use native.Mathlib.Omega.{arith}
use Rattle.report.specs.Text.{type_word, node_word, inst_word, bit_word, line_end, bit_line}
use Rattle.report.proofs.TextLaws.{put_then}
use Rattle.report.proofs.put_line.Goals as goal

pub put_named-b-requires : goal.put_named-b-requires
put_named-b-requires c = (omega (arith, c.put_named-a.ensures.upper_bound, c.requires), omega arith)

pub put_named-c-requires : goal.put_named-c-requires
put_named-c-requires c =
    (omega (arith, c.put_named-b.ensures.upper_bound, c.put_named-a.ensures.upper_bound, c.requires), omega arith)

pub put_named-d-requires : goal.put_named-d-requires
put_named-d-requires c =
    (omega (arith, c.put_named-c.ensures.upper_bound, c.put_named-b.ensures.upper_bound, c.put_named-a.ensures.upper_bound, c.requires), omega arith)

pub put-requires : goal.put-requires
put-requires c =
    omega (arith, c.put_named-d.ensures.upper_bound, c.put_named-c.ensures.upper_bound, c.put_named-b.ensures.upper_bound, c.put_named-a.ensures.upper_bound, c.requires)

pub returns : goal.returns
unfolding bit_line type_word node_word inst_word bit_word line_end
returns c =
    put_then c.put_named-a.ensures.put
    (put_then c.put_named-b.ensures.put
    (put_then c.put_named-c.ensures.put
    (put_then c.put_named-d.ensures.put
    c.put.ensures)))
