use Rattle.fields.proofs.Steps.{steps}
use Rattle.registers.proofs.RegisterLaws.{register-laws}
use Rattle.registers.proofs.register_instance_at.Goals as goal

pub returns-in-Number : goal.returns-in-Number
returns-in-Number c total before e = search (steps, register-laws) depth 8

pub returns-in-Refused-x : goal.returns-in-Refused-x
returns-in-Refused-x c total before e = search (steps, register-laws) depth 8

pub returns-in-Refused : goal.returns-in-Refused
returns-in-Refused c total before e = search (steps, register-laws) depth 8
