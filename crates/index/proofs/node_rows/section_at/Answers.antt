use mathlib.Core.Path.{refl, sym, ◌∙◌, ap}
use Rattle.format.specs.Keywords.{node}
use Rattle.format.specs.NodeLayout.{nodes_at}
use Rattle.fields.specs.Views.{next_parsed, number_parsed}
use Rattle.fields.proofs.Steps.{steps, next_then', number_then'}
use Rattle.fields.proofs.RowLaws.{section_counted, section_missed}
use Rattle.index.proofs.Again as again
use Rattle.index.proofs.node_rows.section_at.Goals as goal

pub returns-in-Count : goal.returns-in-Count
unfolding nodes_at node
returns-in-Count c = record {
  result_value = next_then' _ _ _ c.keyword_at-k.ensures c.in-Next.is
      (number_then' _ _ _ c.number_count_at-c.ensures c.in-Number.is (section_counted _ _ _ _ c.rows_at-rows.ensures.result_value c.in-Count.is refl));
  fact = λ ns e d. c.rows_at-rows.ensures.fact ns e
      (again.section_rows _ _ _ _ _ d (sym (ap next_parsed c.in-Next.is) ∙ c.keyword_at-k.ensures) (sym (ap number_parsed c.in-Number.is) ∙ c.number_count_at-c.ensures));
}

pub returns-in-Refused-rows : goal.returns-in-Refused-rows
unfolding nodes_at node
returns-in-Refused-rows c = record {
  result_value = next_then' _ _ _ c.keyword_at-k.ensures c.in-Next.is
      (number_then' _ _ _ c.number_count_at-c.ensures c.in-Number.is (section_missed _ _ _ _ c.rows_at-rows.ensures.result_value c.in-Refused-rows.is refl));
  fact = λ ns e d. c.rows_at-rows.ensures.fact ns e
      (again.section_rows _ _ _ _ _ d (sym (ap next_parsed c.in-Next.is) ∙ c.keyword_at-k.ensures) (sym (ap number_parsed c.in-Number.is) ∙ c.number_count_at-c.ensures));
}

pub returns-in-Refused-c : goal.returns-in-Refused-c
unfolding nodes_at node
returns-in-Refused-c c = record {
  result_value = search steps;
  fact = λ ns e d. again.section_counted _ _ _ _ _ d (sym (ap next_parsed c.in-Next.is) ∙ c.keyword_at-k.ensures) (sym (ap number_parsed c.in-Refused-c.is) ∙ c.number_count_at-c.ensures);
}

pub returns-in-Refused : goal.returns-in-Refused
unfolding nodes_at node
returns-in-Refused c = record {
  result_value = search steps;
  fact = λ ns e d. again.section_named _ _ _ _ _ d (sym (ap next_parsed c.in-Refused.is) ∙ c.keyword_at-k.ensures);
}
