use Rattle.board.proofs.BoardLaws.{full_tables}
use Rattle.board.proofs.board_full.Goals as goal

pub returns : goal.returns
returns c = c.board_in.ensures.exact (c.board_in.ensures.enough full_tables full_tables)
