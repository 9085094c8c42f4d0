use Rattle.std.proofs.Common.{refl}
use Rattle.readings.proofs.RecordLaws.{decoded_yes, decoded_no}
use Rattle.report.proofs.file.decode_named.Goals as goal

pub returns-in-Ok-clause-count : goal.returns-in-Ok-clause-count
returns-in-Ok-clause-count c = rw (decoded_yes _ _ _ _ c.in-Ok.ensures.answer) refl

pub returns-in-Err-clause-count : goal.returns-in-Err-clause-count
returns-in-Err-clause-count c = rw (decoded_no _ _ _ _ c.in-Err.field-0 c.in-Err.ensures.answer) refl
