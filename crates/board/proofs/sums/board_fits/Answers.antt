use Rattle.board.proofs.SumsLaws.{no_slot, many_slots, word-list, read-list, file-sum, word_sum, read-sum}
use mathlib.Core.Bool.{not}
use mathlib.Core.Path.{ap}
use Rattle.board.proofs.sums.board_fits.Goals as goal

pub returns-then-file_lengths-lt1 : goal.returns-then-file_lengths-lt1
returns-then-file_lengths-lt1 c = no_slot _ c.if-file_lengths-lt1.true

pub returns-then-file_lengths-gt-SLOTS : goal.returns-then-file_lengths-gt-SLOTS
returns-then-file_lengths-gt-SLOTS c = many_slots _ c.if-file_lengths-lt1.false c.if-file_lengths-gt-SLOTS.true

pub returns-then-word_lengths-file_lengths : goal.returns-then-word_lengths-file_lengths
returns-then-word_lengths-file_lengths c = word-list _ c.if-file_lengths-lt1.false c.if-file_lengths-gt-SLOTS.false c.if-word_lengths-file_lengths.true

pub returns-then-read_lengths-file_lengths : goal.returns-then-read_lengths-file_lengths
returns-then-read_lengths-file_lengths c = read-list _ c.if-file_lengths-lt1.false c.if-file_lengths-gt-SLOTS.false c.if-word_lengths-file_lengths.false c.if-read_lengths-file_lengths.true

pub returns-then-not-adds_up : goal.returns-then-not-adds_up
returns-then-not-adds_up c = file-sum _ c.if-file_lengths-lt1.false c.if-file_lengths-gt-SLOTS.false c.if-word_lengths-file_lengths.false c.if-read_lengths-file_lengths.false c.adds_up.ensures (ap not c.if-not-adds_up.true)

pub returns-then-not-adds_up-2 : goal.returns-then-not-adds_up-2
returns-then-not-adds_up-2 c = word_sum _ c.if-file_lengths-lt1.false c.if-file_lengths-gt-SLOTS.false c.if-word_lengths-file_lengths.false c.if-read_lengths-file_lengths.false c.adds_up.ensures (ap not c.if-not-adds_up.false) c.adds_up-2.ensures (ap not c.if-not-adds_up-2.true)

pub returns : goal.returns
returns c = read-sum _ c.if-file_lengths-lt1.false c.if-file_lengths-gt-SLOTS.false c.if-word_lengths-file_lengths.false c.if-read_lengths-file_lengths.false c.adds_up.ensures (ap not c.if-not-adds_up.false) c.adds_up-2.ensures (ap not c.if-not-adds_up-2.false) c.adds_up-3.ensures
