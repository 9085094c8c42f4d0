use Rattle.board.proofs.+board_with.Given as goal

abbrev pub decreases-board_with : goal.decreases-board_with
decreases-board_with l = l.larger
