use mathlib.Core.Path.{sym, ap, ◌∙◌}
use native.Mathlib.Omega.{arith}
use Rattle.limits.specs.Limits.{library_limits}
use Rattle.board.specs.Board.{board_of, slots_of, join, in_board_list}
use Rattle.board.proofs.+board_with.Goals as goal

pub board_full-requires : goal.board_full-requires
board_full-requires t c = c.requires

pub returns-then-larger-eq0 : goal.returns-then-larger-eq0
returns-then-larger-eq0 t c = c.board_full.ensures

pub board_middle-b-requires : goal.board_middle-b-requires
board_middle-b-requires t c = c.requires

pub returns-then-is_exact : goal.returns-then-is_exact
returns-then-is_exact t c = c.board_middle-b.ensures.exact (sym c.is_exact.ensures ∙ c.if-is_exact.true)

pub overflow_sub-larger : goal.overflow_sub-larger
overflow_sub-larger t c = omega arith

pub board_with-requires : goal.board_with-requires
board_with-requires t c = (omega arith, c.requires)

pub returns-then-larger-eq1 : goal.returns-then-larger-eq1
returns-then-larger-eq1 t c =
    let k = c.board_middle-b.ensures.kept (sym c.is_exact.ensures ∙ c.if-is_exact.false) in
    c.board_with.ensures
    ∙ ap (λ l. in_board_list l (join library_limits c.args.attention (slots_of (board_of c.args.files.now c.args.file_lengths.now c.args.words.now c.args.word_lengths.now c.args.read.now c.args.read_lengths.now)))) k

pub board_small-b-requires : goal.board_small-b-requires
board_small-b-requires t c = c.requires

pub returns-then-is_exact-2 : goal.returns-then-is_exact-2
returns-then-is_exact-2 t c = c.board_small-b.ensures.exact (sym c.is_exact-2.ensures ∙ c.if-is_exact-2.true)

pub overflow_sub-larger-2 : goal.overflow_sub-larger-2
overflow_sub-larger-2 t c = omega arith

pub board_with-requires-2 : goal.board_with-requires-2
board_with-requires-2 t c = (omega arith, c.requires)

pub returns : goal.returns
returns t c =
    let k = c.board_small-b.ensures.kept (sym c.is_exact-2.ensures ∙ c.if-is_exact-2.false) in
    c.board_with-2.ensures
    ∙ ap (λ l. in_board_list l (join library_limits c.args.attention (slots_of (board_of c.args.files.now c.args.file_lengths.now c.args.words.now c.args.word_lengths.now c.args.read.now c.args.read_lengths.now)))) k
