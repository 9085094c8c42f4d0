use Rattle.tables.proofs.TablesLaws.{set_beyond}
use Rattle.report.proofs.put_byte.Goals as goal

pub returns-else-at-text : goal.returns-else-at-text
returns-else-at-text c = set_beyond _ _ _ c.if-at-text.false
