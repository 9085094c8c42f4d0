use mathlib.Core.Path.{refl, sym, ◌∙◌, ap}
use Rattle.fields.proofs.Steps.{twice}
use Rattle.fields.proofs.RowLaws.{row_counted, row_missed}
use Rattle.nodes.specs.Nodes.{node_head_parsed, node_element}
use Rattle.nodes.proofs.NodeLaws.{node_told, head_then, head_stop}
use Rattle.index.proofs.Again.{unmade}
use Rattle.index.proofs.ElementLaws.{node_filled}
use Rattle.index.proofs.node_rows.node_at.Goals as goal

pub returns-in-Next : goal.returns-in-Next
returns-in-Next c = record {
  result_value = λ i before k e. node_told _ _ _ _ _ e
      (head_then _ _ _ (c.node_head_at-top.ensures i _ k) c.in-Head.is (twice _ _ _ (row_counted _ _ _ _ c.instances_at-rest.ensures.result_value c.in-Next.is refl)));
  fact = λ i before k e n m d. node_filled _ _ _ _ _ before e (sym (ap node_head_parsed c.in-Head.is) ∙ c.node_head_at-top.ensures i _ k) c.instances_at-rest.ensures.fact n m d;
}

pub returns-in-Refused-rest : goal.returns-in-Refused-rest
returns-in-Refused-rest c = record {
  result_value = λ i before k e. node_told _ _ _ _ _ e
      (head_then _ _ _ (c.node_head_at-top.ensures i _ k) c.in-Head.is (twice _ _ _ (row_missed _ _ _ _ c.instances_at-rest.ensures.result_value c.in-Refused-rest.is refl)));
  fact = λ i before k e n m d. unmade node_element (node_told _ node_element _ before _ e
      (head_then _ _ _ (c.node_head_at-top.ensures i _ k) c.in-Head.is (twice _ _ _ (row_missed _ _ _ _ c.instances_at-rest.ensures.result_value c.in-Refused-rest.is refl)))) d;
}

pub returns-in-Refused : goal.returns-in-Refused
returns-in-Refused c = record {
  result_value = λ i before k e. node_told _ _ _ _ _ e (head_stop _ _ _ (c.node_head_at-top.ensures i _ k) c.in-Refused.is refl);
  fact = λ i before k e n m d. unmade node_element (node_told _ node_element _ before _ e (head_stop _ _ _ (c.node_head_at-top.ensures i _ k) c.in-Refused.is refl)) d;
}
