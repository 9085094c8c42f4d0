use mathlib.Core.Bool.{not}
use mathlib.Core.Path.{sym, ◌∙◌, ap}
use lib.Dec.{eqb}
use Rattle.isolation.specs.Outcome.{is_exact}
use Rattle.isolation.proofs.answer.is_exact.Goals as goal

pub returns-in-Ok : goal.returns-in-Ok
unfolding is_exact
returns-in-Ok c = sym (ap is_exact c.in-Ok.is)

pub returns-in-Err : goal.returns-in-Err
unfolding is_exact
returns-in-Err c = ap (λ n. not (eqb n 43)) c.number.ensures ∙ sym (ap is_exact c.in-Err.is)
