use native.Mathlib.Omega.{arith}
use Rattle.tables.proofs.IndexedLaws.{indexed_none}
use Rattle.fields.proofs.seen.enter_ids.Goals as goal

pub returns-then-largest-id : goal.returns-then-largest-id
returns-then-largest-id c = (omega arith, λ h i. indexed_none _ _)
