-- The invariant: the listable ones of the bits that were taken are in the word. The measure is how many are left: one pass for each active bit.
use lib.Count.{ones}
use Rattle.listing.proofs.PassLaws.{Gathered}
use Rattle.listing.proofs.keep_bits.Given as goal

abbrev pub invariant-loop-unseen : goal.invariant-loop-unseen
invariant-loop-unseen l = Gathered l.graph.active.now l.graph.children.now l.i l.word l.unseen

abbrev pub decreases-loop-unseen : goal.decreases-loop-unseen
decreases-loop-unseen l = ones l.unseen
