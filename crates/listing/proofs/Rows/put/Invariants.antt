-- The invariant: the records of the rows so far have been written, and the rest is as it was.
use Rattle.std.proofs.Common.{length}
use Rattle.listing.specs.Rows.{first_rows, kept_records, Wrote}
use Rattle.listing.proofs.Rows.put.Given as goal

abbrev pub invariant-loop-head : goal.invariant-loop-head
invariant-loop-head l = Wrote l.initial.list l.list 0 l.place (kept_records l.attention (first_rows (length l.yielded) l.self.heads.now l.self.words.now))
