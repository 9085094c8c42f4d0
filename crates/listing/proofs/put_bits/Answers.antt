use borrow.Author.Rules.{rules}
use native.Mathlib.Omega.{arith}
use Rattle.numbers.proofs.TakenLaws.{taken_less}
use Rattle.listing.proofs.PassLaws.{recorded_none, recorded_room, recorded_next, recorded_all}
use Rattle.listing.proofs.put_bits.Goals as goal

pub loop-unwritten-init : goal.loop-unwritten-init
loop-unwritten-init c = recorded_none _ _ _ _ (omega arith)

pub put_record-requires : goal.put_record-requires
put_record-requires c =
    recorded_room _ _ _ _ c.loop-unwritten.invariant c.requires (λ z. absurd (omega arith)) c.next_bit.ensures

pub overflow_add-place : goal.overflow_add-place
overflow_add-place c =
    omega (
      arith,
      recorded_room c.args.attention c.args.head c.args.word c.args.«at» c.loop-unwritten.invariant c.requires (λ z. absurd (omega arith)) c.next_bit.ensures,
    )

pub loop-unwritten-smaller : goal.loop-unwritten-smaller
loop-unwritten-smaller c =
    taken_less c.loop-unwritten.invariant (λ z. absurd (omega arith)) c.without_next-unwritten.ensures

pub loop-unwritten-preserved : goal.loop-unwritten-preserved
loop-unwritten-preserved c =
    recorded_next _ _ _ _ c.loop-unwritten.invariant c.requires (λ z. absurd (omega arith)) c.next_bit.ensures c.put_record.ensures (search rules) c.without_next-unwritten.ensures

pub returns : goal.returns
returns c = recorded_all _ _ _ _ c.loop-unwritten.invariant (omega arith)
