use mathlib.Core.Path.{refl}
use native.Mathlib.Omega.{arith}
use Rattle.register_rows.proofs.ListedLaws.{with_room, without_room}
use Rattle.register_rows.proofs.few_rows_at.Goals as goal

pub returns-then-n : goal.returns-then-n
returns-then-n c = record {
  result_value = without_room _ _ _ _ c.if-n.true;
  kinds_after = λ rs m h d. absurd (omega (arith, c.if-n.true));
  kinds_unchanged = λ h. refl;
}

pub returns : goal.returns
returns c = record {
  result_value = with_room _ _ _ _ c.if-n.false c.indexed_rows_at.ensures.result_value;
  kinds_after = λ rs m h d. c.indexed_rows_at.ensures.kinds_after rs m d;
  kinds_unchanged = λ h. absurd (omega (arith, c.if-n.false));
}
