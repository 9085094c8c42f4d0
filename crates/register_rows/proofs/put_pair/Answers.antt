use Rattle.index.specs.Rows.{put_row}
use Rattle.register_rows.proofs.put_pair.Goals as goal

pub returns : goal.returns
unfolding put_row
returns c place = rw (c.put.ensures, c.put-2.ensures)
