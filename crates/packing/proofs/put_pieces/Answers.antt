use Rattle.std.proofs.Common.{arith, ◌≡◌, ◌≤◌, length}
use lib.ListN.{drop_of_length-le}
use Rattle.std.proofs.lemmas.List.{take_all}
use Rattle.numbers.proofs.BigEndianLaws.{length_bytes}
use Rattle.packing.specs.Writing.{pieces_bytes}
use Rattle.packing.proofs.BackLaws.{back_none, back_same, back_more}
use Rattle.packing.proofs.OwnLaws.{next_bytes, next_size}
use Rattle.packing.proofs.put_pieces.Goals as goal

pub loop-i-init : goal.loop-i-init
unfolding pieces_bytes
loop-i-init c =
    let four : length c.args.pieces ≤ 4 = omega arith in
    record { back = rw (drop_of_length-le c.args.pieces four) (back_none _ _ c.requires.1); room = rw (take_all 4 c.args.pieces four) c.requires.0 }

pub put_back-place-requires : goal.put_back-place-requires
put_back-place-requires c = (
  omega (arith, c.loop-i.invariant.room, next_size c.args.pieces c.loop-i.i (omega arith) (omega arith)),
  omega (arith, c.loop-i.invariant.back.starts, c.loop-i.invariant.back.within, back_same c.loop-i.invariant.back),
)

pub loop-i-preserved : goal.loop-i-preserved
loop-i-preserved c = record {
  back = rw (next_bytes c.args.pieces c.loop-i.i (omega arith) (omega arith)) (back_more c.loop-i.invariant.back c.put_back-place.ensures);
  room =
      omega (
        arith,
        c.loop-i.invariant.room,
        next_size c.args.pieces c.loop-i.i (omega arith) (omega arith),
        c.put_back-place.ensures.starts,
        length_bytes,
      );
}

pub returns : goal.returns
returns c = let none : c.loop-i.i ≡ 0 = omega arith in rw none at c.loop-i.invariant.back
