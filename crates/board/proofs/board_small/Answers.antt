use Rattle.board.proofs.board_small.Goals as goal

pub returns : goal.returns
returns c = record {
  exact = c.board_in.ensures.exact;
  kept = c.board_in.ensures.kept;
}
