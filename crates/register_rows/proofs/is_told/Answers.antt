use mathlib.Core.Bool.{not}
use mathlib.Core.Path.{sym, ◌∙◌, ap}
use lib.Dec.{eqb}
use Rattle.fields.specs.Views.{count_parsed}
use Rattle.register_rows.specs.Told.{is_told}
use Rattle.register_rows.proofs.is_told.Goals as goal

pub returns-in-Count : goal.returns-in-Count
unfolding is_told
returns-in-Count c = sym (ap (λ x. is_told (count_parsed x)) c.in-Count.is)

pub returns-in-Refused : goal.returns-in-Refused
unfolding is_told
returns-in-Refused c = ap (λ n. not (eqb n 43)) c.number.ensures ∙ sym (ap (λ x. is_told (count_parsed x)) c.in-Refused.is)
