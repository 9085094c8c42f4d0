use Rattle.std.proofs.Common.{◌≤◌, take, drop}
use Rattle.packing.specs.Writing.{Back, pieces_bytes, pieces_size}
use Rattle.packing.proofs.put_pieces.Given as goal

abbrev pub invariant-loop-i : goal.invariant-loop-i
invariant-loop-i l = record { back : Back l.initial.out l.out l.at l.place (pieces_bytes (drop l.i l.pieces)); room : pieces_size (take l.i l.pieces) ≤ l.place }
