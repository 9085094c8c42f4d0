-- The invariant: the instances to come answer what all of the register's answer.
use Prim.Native.Nat.{ℕ}
use mathlib.Core.Bool.{true}
use mathlib.Core.List.{[]}
use Rattle.format.specs.Lookup.{entries_of}
use Rattle.format.specs.Parsed.{row_at}
use Rattle.format.specs.RegisterLayout.{register_instance_at}
use Rattle.index.specs.Sought.{address_among, register_of}
use Rattle.index.proofs.SeekingLaws.{Seeking}
use Rattle.index.proofs.addresses.instance_address.Given as goal

abbrev pub invariant-loop-left : goal.invariant-loop-left
invariant-loop-left l =
    (limit total id flags : ℕ)
    → Seeking (register_instance_at limit l.s true total l.kind) (λ is. address_among id l.number (entries_of (register_of id l.kind flags is))) (row_at (register_instance_at limit l.s true total l.kind) l.initial.left [] l.initial.place) l.left l.place

abbrev pub decreases-loop-left : goal.decreases-loop-left
decreases-loop-left l = l.left
