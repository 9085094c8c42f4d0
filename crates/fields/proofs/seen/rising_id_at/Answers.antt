use mathlib.Core.Path.{sym, ◌∙◌, ap}
use Rattle.format.proofs.Spelling.{field_out}
use Rattle.fields.specs.Views.{number_parsed}
use Rattle.fields.proofs.SeenLaws.{id_done, id_refused}
use Rattle.fields.proofs.seen.rising_id_at.Goals as goal

pub returns-else-id-bound : goal.returns-else-id-bound
returns-else-id-bound c numbers b =
    let e = sym (ap number_parsed c.in-Number.is) ∙ c.number_at-i.ensures in
    (id_done _ _ _ numbers b e c.if-id-bound.false, c.if-id-bound.false, (field_out _ (λ i. (c.type_inv.s i).fits) _ _ (sym e)).1)

pub returns-in-Refused : goal.returns-in-Refused
returns-in-Refused c numbers b = id_refused _ _ _ numbers b (sym (ap number_parsed c.in-Refused.is) ∙ c.number_at-i.ensures)
