-- The invariant: the marks tell the numbers of the instances so far, and those that are left decide; with the rows of these the tables are what they are to be.
use mathlib.Core.Bool.{true}
use mathlib.Core.List.{[], ◌∷◌}
use Rattle.format.specs.Parsed.{row_at}
use Rattle.format.specs.RegisterLayout.{register_instance_at}
use Rattle.fields.proofs.RowLaws.{Row}
use Rattle.registers.specs.Registers.{register_number}
use Rattle.index.specs.Rows.{row_of, pair}
use Rattle.index.proofs.FillingLaws.{Sized, Filling}
use Rattle.register_rows.proofs.marked_at.Given as goal

abbrev pub invariant-loop-left : goal.invariant-loop-left
invariant-loop-left l =
    Row (register_instance_at l.limit l.s true l.total l.kind) register_number (row_at (register_instance_at l.limit l.s true l.total l.kind) l.count [] l.at) l.total l.begun l.seen l.left l.place
    × Sized (pair l.initial.keys l.initial.kinds) (pair l.keys l.kinds)
    × Filling (register_instance_at l.limit l.s true l.total l.kind) (λ i. row_of l.id l.code i.number i.place ∷ []) (λ b x. Unit {0}) (row_at (register_instance_at l.limit l.s true l.total l.kind) l.count [] l.at)
    (pair l.initial.keys l.initial.kinds) l.total (pair l.keys l.kinds) l.begun l.left l.place

abbrev pub decreases-loop-left : goal.decreases-loop-left
decreases-loop-left l = l.left
