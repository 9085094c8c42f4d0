-- The invariant: `ids`, `index`, `largest` and `total` are those of the registers so far, and those that are left decide; with the rows of these the tables are what they are to be.
use Prim.Native.Nat.{◌+◌, ◌≤◌}
use mathlib.Core.Bool.{true}
use mathlib.Core.List.{[], map}
use mathlib.Core.Path.{◌≡◌}
use lib.ListN.{length}
use Rattle.format.specs.Lookup.{entries_of}
use Rattle.format.specs.Parsed.{row_at}
use Rattle.format.specs.RegisterLayout.{register_total, register_at}
use Rattle.fields.proofs.RowLaws.{Elements}
use Rattle.registers.specs.Registers.{register_id}
use Rattle.index.specs.Rows.{register_row, pair}
use Rattle.index.proofs.FillingLaws.{Sized, Filling}
use Rattle.register_rows.proofs.indexed_rows_at.Given as goal

abbrev pub invariant-loop-left : goal.invariant-loop-left
invariant-loop-left l =
    (length l.ids ≡ length l.initial.ids) × (length l.index ≡ length l.initial.index) × (l.known ≤ l.total) × (l.total ≤ l.limit) × (l.known + l.left ≡ l.n)
    × Elements (register_at l.limit l.s true) register_id register_total (row_at (register_at l.limit l.s true) l.n [] l.at) l.ids l.index l.known l.entered l.largest l.total l.left l.place
    × Sized (pair l.initial.keys l.initial.kinds) (pair l.keys l.kinds)
    × Filling (register_at l.limit l.s true) (λ r. map register_row (entries_of r)) (λ before j. j ≡ register_total before) (row_at (register_at l.limit l.s true) l.n [] l.at) (pair l.initial.keys l.initial.kinds) 0 (pair l.keys l.kinds) l.total l.left l.place

abbrev pub decreases-loop-left : goal.decreases-loop-left
decreases-loop-left l = l.left
