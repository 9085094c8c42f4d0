use mathlib.Core.Path.{ap}
use Rattle.format.proofs.ParsedLaws.{never}
use Rattle.fields.specs.Views.{next_parsed}
use Rattle.references.proofs.PartsLaws.{name_there, name_absent}
use Rattle.references.proofs.child_name_fault.Goals as goal

pub returns-then-p-keys : goal.returns-then-p-keys
returns-then-p-keys c = record {
  result_value = λ i. name_there _ _ _ _ _ (c.find_name-p.ensures i) c.if-p-keys.true;
  by_index = λ after e i. rw (← c.find_name-p.ensures i) c.put_link.ensures;
}

pub returns : goal.returns
returns c = record {
  result_value = λ i. name_absent _ _ _ _ _ (c.find_name-p.ensures i) c.if-p-keys.false;
  by_index = λ after e i. never (ap next_parsed e);
}
