use Rattle.reader.proofs.ExaminedLaws.{usable_all, usable_short, usable_none}
use Rattle.reader.proofs.examined.usable.Goals as goal

pub returns-then-n-entries : goal.returns-then-n-entries
returns-then-n-entries c = usable_all _ _ _ c.if-fits.true c.if-n-entries.true

pub returns-else-n-entries : goal.returns-else-n-entries
returns-else-n-entries c = usable_short _ _ _ c.if-fits.true c.if-n-entries.false

pub returns-else-fits : goal.returns-else-fits
returns-else-fits c = usable_none c.args.fits c.args.n c.args.entries c.if-fits.false
