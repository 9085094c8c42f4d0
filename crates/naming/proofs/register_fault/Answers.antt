use Rattle.naming.proofs.JudgedLaws.{register_absent, register_unfit, register_fit}
use Rattle.naming.proofs.register_fault.Goals as goal

pub returns-then-fit : goal.returns-then-fit
returns-then-fit c = search register_fit

pub returns-then-found : goal.returns-then-found
returns-then-found c = search register_unfit

pub returns : goal.returns
returns c = search register_absent
