-- The invariant: the IDs so far rise, and the registers that are left decide; with the rows of these the tables are what they are to be.
use mathlib.Core.Bool.{true}
use mathlib.Core.List.{[], map}
use Rattle.format.specs.Lookup.{entries_of}
use Rattle.format.specs.Parsed.{row_at}
use Rattle.format.specs.RegisterLayout.{register_total, register_at}
use Rattle.registers.specs.Registers.{register_id}
use Rattle.index.specs.Rows.{register_row, pair}
use Rattle.index.proofs.RisingLaws.{RisingRows}
use Rattle.register_rows.proofs.rising_rows_at.Given as goal

abbrev pub invariant-loop-left : goal.invariant-loop-left
invariant-loop-left l =
    RisingRows (register_at l.limit l.s true) register_id register_total (λ r. map register_row (entries_of r)) l.limit (row_at (register_at l.limit l.s true) l.n [] l.at) (pair l.initial.keys l.initial.kinds) (pair l.keys l.kinds) l.bound l.total l.left l.place

abbrev pub decreases-loop-left : goal.decreases-loop-left
decreases-loop-left l = l.left
