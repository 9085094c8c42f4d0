use Rattle.registers.proofs.RegisterLaws.{register-laws}
use Rattle.registers.proofs.address_at.Goals as goal

pub returns-then-kind-eq1 : goal.returns-then-kind-eq1
returns-then-kind-eq1 c = search register-laws

pub returns : goal.returns
returns c = search register-laws
