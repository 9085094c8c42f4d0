use Rattle.tables.proofs.TablesLaws.{set_beyond}
use Rattle.links.proofs.put_child.Goals as goal

pub returns-else-k-table : goal.returns-else-k-table
returns-else-k-table c = set_beyond _ _ _ c.if-k-table.false
