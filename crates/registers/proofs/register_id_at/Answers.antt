use Rattle.fields.proofs.Steps.{steps}
use Rattle.fields.proofs.SeenLaws.{seen-laws}
use Rattle.registers.proofs.register_id_at.Goals as goal

pub returns-then-not-is_new : goal.returns-then-not-is_new
returns-then-not-is_new c i = let e = c.is_new.ensures i in search (steps, seen-laws) depth 8

pub returns-else-not-is_new : goal.returns-else-not-is_new
returns-else-not-is_new c i = let e = c.is_new.ensures i in search (steps, seen-laws) depth 8

pub returns-in-Refused : goal.returns-in-Refused
returns-in-Refused c i = search (steps, seen-laws) depth 8
