use Rattle.std.proofs.Common.{ℕ}
use lib.ListN.{length-replicate}
use Rattle.writer.proofs.BuildingLaws.{same_room}
use Rattle.writer.proofs.classes.write_sized.Goals as goal

pub returns : goal.returns
returns g c = same_room _ _ _ (length-replicate {A = ℕ} g.row.N 0) c.write_in.ensures
