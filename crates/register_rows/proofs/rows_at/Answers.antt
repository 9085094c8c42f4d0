use mathlib.Core.Path.{◌∙◌}
use Rattle.index.proofs.RisingLaws.{count_read, count_rose, count_fell}
use Rattle.register_rows.proofs.rows_at.Goals as goal

pub returns-in-Read : goal.returns-in-Read
returns-in-Read c = record {
  result_value = count_read _ c.in-Read.is c.rising_rows_at-r.ensures.count_told;
  kinds_after = λ rs m d. count_rose _ _ c.in-Read.is (c.rising_rows_at-r.ensures.count_unless rs m d);
}

pub returns-in-Falls : goal.returns-in-Falls
returns-in-Falls c = record {
  result_value = c.listed_rows_at.ensures.result_value;
  kinds_after = λ rs m d. c.listed_rows_at.ensures.kinds_after rs m d ∙ count_fell _ _ c.in-Falls.is (c.rising_rows_at-r.ensures.count_unless rs m d);
}
