-- Boards of two chips of document 01's sample B1, with the whole answer.
use Rattle.std.specs.Prelude.{ℕ, List, [], ◌∷◌, ◌++◌, ◌≡◌, take}
use Rattle.limits.specs.Limits.{library_limits}
use Rattle.format.specs.Samples.{b1}
use Rattle.isolation.specs.Outcome.{done_outcome, refused_outcome}
use Rattle.isolation.specs.Samples.{lent}
use Rattle.board.specs.Board.{Board, board_of, BoardOutcome, board_outcome, board}

-- A row: a board, a list, and the answer for type 3.
pub data Row : Type 0 where
  isolating : Board → List ℕ → BoardOutcome → Row

abbrev pub Holds : Row → Type 0
Holds (isolating b list o) = board library_limits 3 b list ≡ o

abbrev pub AllHold : List Row → Type 0
AllHold [] = Unit {0}
AllHold (r ∷ rs) = Holds r × AllHold rs

-- B1 in slots 0 and 1: bit 0 of its register is read in the first, and bit 63 in the second.
abbrev pub two : Board
two = board_of (b1 ++ b1) (60 ∷ 60 ∷ []) (0x8000_0000_0000_0000 ∷ 1 ∷ []) (1 ∷ 1 ∷ []) (1 ∷ 1 ∷ []) (1 ∷ 1 ∷ [])

-- The same with the second file cut short by its last byte.
abbrev pub cut : Board
cut = board_of (b1 ++ take 59 b1) (60 ∷ 59 ∷ []) (0x8000_0000_0000_0000 ∷ 1 ∷ []) (1 ∷ 1 ∷ []) (1 ∷ 1 ∷ []) (1 ∷ 1 ∷ [])

-- The same with the register of the second one unread.
abbrev pub unread : Board
unread = board_of (b1 ++ b1) (60 ∷ 60 ∷ []) (0x8000_0000_0000_0000 ∷ 1 ∷ []) (1 ∷ 1 ∷ []) (1 ∷ 0 ∷ []) (1 ∷ 1 ∷ [])

-- The same with a length of files that is one too large.
abbrev pub unsummed : Board
unsummed = board_of (b1 ++ b1) (60 ∷ 61 ∷ []) (0x8000_0000_0000_0000 ∷ 1 ∷ []) (1 ∷ 1 ∷ []) (1 ∷ 1 ∷ []) (1 ∷ 1 ∷ [])

-- Both records, the second with slot 1, and two steps; 2 and 18 of slot 1, at their places in its own file; 20; and 19, where there is room for one record.
abbrev pub samples : List Row
samples =
    isolating two (lent ++ lent)
    (board_outcome 0
    (done_outcome 2 2
    (0x00 ∷ 0x00 ∷ 0x00 ∷ 0x01 ∷ 0x03 ∷ 0x00 ∷ 0x00 ∷ 0x01 ∷ 0x00 ∷ 0x00 ∷ 0x00 ∷ 0x00 ∷ 0x00 ∷ 0x00 ∷ 0x00 ∷ 0x00 ∷
    0x00 ∷ 0x00 ∷ 0x00 ∷ 0x01 ∷ 0x03 ∷ 0x3F ∷ 0x00 ∷ 0x01 ∷ 0x00 ∷ 0x01 ∷ 0x00 ∷ 0x00 ∷ 0x00 ∷ 0x00 ∷ 0x00 ∷ 0x00 ∷
    0xAA ∷ 0xAA ∷ 0xAA ∷ 0xAA ∷ 0xAA ∷ 0xAA ∷ [])))
    ∷ isolating cut lent (board_outcome 1 (refused_outcome 2 59 lent))
    ∷ isolating unread lent (board_outcome 1 (refused_outcome 18 46 lent))
    ∷ isolating unsummed lent (board_outcome 0 (refused_outcome 20 0 lent))
    ∷ isolating two lent (board_outcome 0 (refused_outcome 19 2 lent))
    ∷ []
