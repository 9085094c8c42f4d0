use Rattle.std.proofs.Common.{arith}
use Rattle.packing.proofs.BackLaws.{back_same, back_more}
use Rattle.packing.proofs.OutputLaws.{section-length}
use Rattle.packing.proofs.put_file.Goals as goal

pub put_section-b-requires : goal.put_section-b-requires
put_section-b-requires c = (
  omega (arith, c.put_section-c.ensures.starts, section-length),
  omega (arith, c.put_section-c.ensures.starts, c.put_section-c.ensures.within, back_same c.put_section-c.ensures),
)

pub put_section-a-requires : goal.put_section-a-requires
put_section-a-requires c = (
  omega (arith, c.put_section-c.ensures.starts, c.put_section-b.ensures.starts, section-length),
  omega (arith, c.put_section-b.ensures.starts, c.put_section-b.ensures.within, back_same c.put_section-b.ensures),
)

pub put_start-requires : goal.put_start-requires
put_start-requires c = (
  omega (arith, c.put_section-c.ensures.starts, c.put_section-b.ensures.starts, c.put_section-a.ensures.starts, section-length),
  omega (arith, c.put_section-a.ensures.starts, c.put_section-a.ensures.within, back_same c.put_section-a.ensures),
)

pub returns : goal.returns
returns c = back_more (back_more (back_more c.put_section-c.ensures c.put_section-b.ensures) c.put_section-a.ensures) c.put_start.ensures
