-- The invariant: the marks tell the attention types of the roots so far, and those that are left decide.
use Prim.Native.Nat.{ℕ}
use mathlib.Core.Bool.{true}
use mathlib.Core.List.{[]}
use Rattle.format.specs.Parsed.{row_at}
use Rattle.format.specs.FileLayout.{root_at}
use Rattle.reader.specs.Roots.{root_attention}
use Rattle.fields.proofs.RowLaws.{Row}
use Rattle.reader.proofs.roots.root_rows_at.Given as goal

abbrev pub invariant-loop-left : goal.invariant-loop-left
invariant-loop-left l =
    (begun : ℕ) × Row (root_at l.s true) root_attention (row_at (root_at l.s true) l.n [] l.at) 0 begun l.seen l.left l.place

abbrev pub decreases-loop-left : goal.decreases-loop-left
decreases-loop-left l = l.left
