use lib.ListN.{length}
use Rattle.board.proofs.+find_slots.Given as goal

abbrev pub decreases-find_slots : goal.decreases-find_slots
decreases-find_slots l = length l.file_lengths.now
