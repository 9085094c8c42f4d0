use Rattle.std.proofs.Common.{arith}
use Rattle.numbers.specs.BigEndian.{bytes_of}
use Rattle.numbers.proofs.BigEndianLaws.{length_bytes}
use Rattle.format.specs.Keywords.{chipdata}
use Rattle.format.specs.Encoding.{encode_start}
use Rattle.packing.proofs.BackLaws.{back_same, back_more}
use Rattle.packing.proofs.put_start.Goals as goal

pub put_back-a-requires : goal.put_back-a-requires
put_back-a-requires c = (
  omega (arith, c.put_back-b.ensures.starts, length_bytes),
  omega (arith, c.put_back-b.ensures.starts, back_same c.put_back-b.ensures),
)

pub put_back-requires : goal.put_back-requires
put_back-requires c = (
  omega (arith, c.put_back-b.ensures.starts, c.put_back-a.ensures.starts, length_bytes),
  omega (arith, c.put_back-b.ensures.starts, c.put_back-a.ensures.starts, back_same c.put_back-b.ensures, back_same c.put_back-a.ensures),
)

pub returns : goal.returns
unfolding encode_start chipdata bytes_of
returns c = back_more (back_more c.put_back-b.ensures c.put_back-a.ensures) c.put_back.ensures
