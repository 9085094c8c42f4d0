-- The invariant: the bits of the rows so far have been counted.
use Rattle.std.proofs.Common.{◌≡◌}
use Rattle.listing.specs.Rows.{first_rows, kept_count}
use Rattle.listing.proofs.Rows.count_bits.Given as goal

abbrev pub invariant-loop-word : goal.invariant-loop-word
invariant-loop-word l = l.count ≡ kept_count (first_rows l.word-index l.self.heads.now l.self.words.now)
