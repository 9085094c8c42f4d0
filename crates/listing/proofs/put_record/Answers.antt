use Rattle.std.proofs.Common.{arith}
use Rattle.listing.proofs.RowsLaws.{record_put}
use Rattle.listing.proofs.put_record.Goals as goal

pub returns : goal.returns
returns c = record_put _ _ _ _ _ c.requires (omega arith) (omega arith) (omega arith)
