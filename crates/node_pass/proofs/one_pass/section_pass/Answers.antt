use mathlib.Core.Path.{refl, sym, ◌∙◌, ap}
use Rattle.format.specs.Keywords.{node}
use Rattle.fields.specs.Views.{next_parsed, number_parsed}
use Rattle.node_pass.proofs.NodeLaws.{section_passed}
use Rattle.node_pass.proofs.one_pass.section_pass.Goals as goal

pub returns-in-Number : goal.returns-in-Number
unfolding node
returns-in-Number c =
    λ x z. section_passed _ _ _ _ _ _ _ (sym (ap next_parsed c.in-Next.is) ∙ c.keyword_at-k.ensures) (sym (ap number_parsed c.in-Number.is) ∙ c.number_count_at-c.ensures)
    (c.rows_pass-p.ensures x z) refl refl refl refl
