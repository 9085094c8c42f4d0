use Rattle.std.proofs.Common.{arith}
use Rattle.listing.proofs.KeptLaws.{rows_least}
use Rattle.listing.proofs.Rows.new.Goals as goal

pub returns-clause-rows : goal.returns-clause-rows
returns-clause-rows c = rows_least _ _ _ (omega arith)
