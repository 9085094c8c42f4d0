use Rattle.report.proofs.FileLaws.{short_words, read_fits}
use Rattle.report.proofs.file.both_fit.Goals as goal

pub returns-then-n-first : goal.returns-then-n-first
returns-then-n-first c = read_fits _ _ _ c.if-n-first.true

pub returns-else-n-first : goal.returns-else-n-first
returns-else-n-first c = short_words _ _ _ c.if-n-first.false
