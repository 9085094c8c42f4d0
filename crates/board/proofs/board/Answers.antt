use mathlib.Core.Path.{sym, ◌∙◌}
use Rattle.board.proofs.BoardLaws.{board_fitting, board_unfit}
use Rattle.board.proofs.board.Goals as goal

pub board_with-requires : goal.board_with-requires
board_with-requires c = sym c.board_fits.ensures ∙ c.if-board_fits.true

pub returns-then-board_fits : goal.returns-then-board_fits
returns-then-board_fits c = board_fitting _ _ _ _ (sym c.board_fits.ensures ∙ c.if-board_fits.true) c.board_with.ensures

pub returns : goal.returns
returns c = board_unfit _ _ _ _ (sym c.board_fits.ensures ∙ c.if-board_fits.false)
