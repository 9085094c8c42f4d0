use Rattle.std.proofs.Common.{rules}
use Rattle.numbers.specs.Field.{present}
use Rattle.records.proofs.JudgingLaws.{record_whole}
use Rattle.records.proofs.record_at.Goals as goal

pub returns : goal.returns
unfolding present
returns c = record_whole _ _ (search rules) c.field_at.ensures c.field_at-2.ensures
