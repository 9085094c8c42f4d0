use mathlib.Core.Bool.{not}
use mathlib.Core.Path.{sym, ◌∙◌, ap}
use lib.Dec.{eqb}
use Rattle.isolation.specs.Rows.{is_found}
use Rattle.isolation.proofs.answer.is_found.Goals as goal

pub returns-in-Ok : goal.returns-in-Ok
unfolding is_found
returns-in-Ok c = sym (ap is_found c.in-Ok.is)

pub returns-in-Err : goal.returns-in-Err
unfolding is_found
returns-in-Err c = ap (λ n. not (eqb n 43)) c.number.ensures ∙ sym (ap is_found c.in-Err.is)
