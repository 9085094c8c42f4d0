use native.Mathlib.Omega.{arith}
use Rattle.tables.proofs.IndexedLaws.{indexed_fewer}
use Rattle.fields.proofs.SeenLaws.{new_above, new_found}
use Rattle.fields.proofs.seen.is_new.Goals as goal

pub returns-then-largest-id : goal.returns-then-largest-id
returns-then-largest-id c = λ i. new_above _ _ _ c.if-largest-id.true

pub returns-then-entered-ids : goal.returns-then-entered-ids
returns-then-entered-ids c = λ i. new_found _ _ _ c.if-largest-id.false (c.find.ensures (indexed_fewer _ _ (omega arith) i))

pub returns : goal.returns
returns c = λ i. new_found _ _ _ c.if-largest-id.false c.position_of.ensures
