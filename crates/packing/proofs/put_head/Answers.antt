use Rattle.std.proofs.Common.{arith}
use Rattle.numbers.proofs.BigEndianLaws.{length_bytes}
use Rattle.packing.proofs.BackLaws.{back_same, back_more}
use Rattle.packing.proofs.put_head.Goals as goal

pub put_back-requires : goal.put_back-requires
put_back-requires c = (
  omega (arith, c.put_back-a.ensures.starts, length_bytes),
  omega (arith, c.put_back-a.ensures.starts, back_same c.put_back-a.ensures),
)

pub returns : goal.returns
returns c = back_more c.put_back-a.ensures c.put_back.ensures
