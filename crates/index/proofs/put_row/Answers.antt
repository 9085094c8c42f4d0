use Rattle.index.specs.Rows.{put_row}
use Rattle.index.proofs.put_row.Goals as goal

pub returns : goal.returns
unfolding put_row
returns c =
    rw (c.put.ensures, c.put-2.ensures, c.put-3.ensures)
