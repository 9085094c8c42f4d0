-- The invariant: the registers to come answer what all answer.
use Prim.Native.Nat.{ℕ}
use mathlib.Core.Bool.{true}
use mathlib.Core.List.{[]}
use Rattle.format.specs.Lookup.{gathered, entries_of}
use Rattle.format.specs.Parsed.{row_at}
use Rattle.format.specs.RegisterLayout.{register_at}
use Rattle.index.specs.Sought.{address_among}
use Rattle.index.proofs.SeekingLaws.{Seeking}
use Rattle.index.proofs.addresses.row_address.Given as goal

abbrev pub invariant-loop-left : goal.invariant-loop-left
invariant-loop-left l =
    (limit : ℕ) → Seeking (register_at limit l.s true) (λ rs. address_among l.id l.number (gathered entries_of rs)) (row_at (register_at limit l.s true) l.n [] l.from) l.left l.place

abbrev pub decreases-loop-left : goal.decreases-loop-left
decreases-loop-left l = l.left
