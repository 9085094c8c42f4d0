use Rattle.register_rows.proofs.RisingLaws.{instances_risen, instances_marked}
use Rattle.register_rows.proofs.instances_at.Goals as goal

pub returns-then-next-gt0 : goal.returns-then-next-gt0
returns-then-next-gt0 c =
    let the = instances_risen _ _ _ _ _ _ _ _ _ (c.rising_at-next.ensures.at_value c.if-next-gt0.true) in
    record { result_value = the.0; kinds_after = the.1 }

pub returns : goal.returns
returns c = record {
  result_value = c.marked_at.ensures.result_value;
  kinds_after = instances_marked _ _ _ _ _ _ _ _ _ c.rising_at-next.ensures.covered c.marked_at.ensures.kinds_after;
}
