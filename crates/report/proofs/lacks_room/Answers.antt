use mathlib.Core.List.{[]}
use mathlib.Core.Path.{sym, ◌∙◌, ap}
use lib.Dec.{eqb}
use Rattle.isolation.specs.Outcome.{outcome_of}
use Rattle.report.proofs.lacks_room.Goals as goal

pub returns-in-Ok : goal.returns-in-Ok
returns-in-Ok c = sym (ap (λ a. eqb (outcome_of a []).number 19) c.in-Ok.is)

pub returns-in-Err : goal.returns-in-Err
returns-in-Err c = ap (λ n. eqb n 19) c.number.ensures ∙ sym (ap (λ a. eqb (outcome_of a []).number 19) c.in-Err.is)
