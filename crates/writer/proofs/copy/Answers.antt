use Rattle.std.proofs.Common.{arith, ◌∙◌}
use lib.ListN.{length-set}
use Rattle.writer.proofs.CopyLaws.{copied_next, copied_end}
use Rattle.writer.proofs.copy.Goals as goal

pub loop-i-preserved : goal.loop-i-preserved
loop-i-preserved c = (copied_next c.args.bytes.now c.loop-i.out c.loop-i.i (omega arith) ∙ c.loop-i.invariant.0, simp length-set c.loop-i.invariant.1)

pub returns : goal.returns
returns c = copied_end _ _ _ _ c.requires (omega arith) c.loop-i.invariant.0
