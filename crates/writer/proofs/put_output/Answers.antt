use Rattle.writer.proofs.CopyLaws.{too_short, fits_in}
use Rattle.writer.proofs.put_output.Goals as goal

pub returns-then-out-n : goal.returns-then-out-n
returns-then-out-n c = rw (c.too_short.ensures.number, c.too_short.ensures.place) (too_short _ _ c.if-out-n.true)

pub returns : goal.returns
returns c = fits_in _ _ c.if-out-n.false c.copy.ensures
