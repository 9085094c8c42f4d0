use mathlib.Core.Path.{sym, ◌∙◌, ap}
use Rattle.expressions.proofs.OpeningLaws.{unsaid}
use Rattle.fields.specs.Views.{next_parsed}
use Rattle.node_pass.proofs.NamesLaws.{children_read}
use Rattle.node_pass.proofs.children_pass.Goals as goal

pub returns-in-Next : goal.returns-in-Next
returns-in-Next c = λ z. children_read _ _ _ (sym (ap next_parsed c.in-Next.is) ∙ c.children_at-c.ensures)

pub returns-in-Refused : goal.returns-in-Refused
returns-in-Refused c = unsaid
