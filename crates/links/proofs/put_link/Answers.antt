use native.Mathlib.Omega.{arith}
use Rattle.tables.proofs.TablesLaws.{set_beyond}
use Rattle.links.proofs.put_link.Goals as goal

pub returns-else-k-child : goal.returns-else-k-child
returns-else-k-child c = set_beyond _ _ _ (omega (arith, c.if-k-child.false))
