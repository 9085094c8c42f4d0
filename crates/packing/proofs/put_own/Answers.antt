use Rattle.packing.proofs.OwnLaws.{pieces_own, own_pieces}
use Rattle.packing.proofs.put_own.Goals as goal

pub put_pieces-requires : goal.put_pieces-requires
put_pieces-requires c = (rw (c.pieces_of.ensures, own_pieces) c.requires.0, c.requires.1)

pub returns : goal.returns
returns c = rw (← pieces_own, ← c.pieces_of.ensures) c.put_pieces.ensures
