-- The invariant: the records of the bits that were taken have been written, and the rest is as it was. The measure is how many are left: one pass for each bit of the word.
use lib.Count.{ones}
use Rattle.listing.proofs.PassLaws.{Recorded}
use Rattle.listing.proofs.put_bits.Given as goal

abbrev pub invariant-loop-unwritten : goal.invariant-loop-unwritten
invariant-loop-unwritten l = Recorded l.attention l.head l.word l.initial.list l.list l.at l.place l.unwritten

abbrev pub decreases-loop-unwritten : goal.decreases-loop-unwritten
decreases-loop-unwritten l = ones l.unwritten
