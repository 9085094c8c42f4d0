use Rattle.std.proofs.Common.{rules, arith, ◌∙◌}
use Rattle.numbers.specs.Field.{present}
use Rattle.records.proofs.PuttingLaws.{record_put}
use Rattle.records.proofs.put_record.Goals as goal

pub returns : goal.returns
unfolding present
returns c =
    record_put _ _ c.args.r (search rules) (omega arith) (omega arith) (omega arith) (omega arith)
    c.copy_from_slice.ensures.after (c.copy_from_slice-2.ensures.after ∙ c.to_be_bytes.ensures) (c.copy_from_slice-3.ensures.after ∙ c.to_be_bytes-2.ensures)
