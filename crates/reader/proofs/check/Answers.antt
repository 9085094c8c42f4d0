use mathlib.Core.Path.{◌∙◌, ap}
use Rattle.reader.specs.Layout.{layout_parsed}
use Rattle.reader.proofs.AddressLaws.{check_accepted, check_refused}
use Rattle.reader.proofs.check.Goals as goal

pub returns-in-Done : goal.returns-in-Done
returns-in-Done c = c.summary.ensures ∙ check_accepted _ _ (ap layout_parsed c.in-Done.is) c.examine-e.ensures.result_value

pub returns-in-Refused : goal.returns-in-Refused
returns-in-Refused c = check_refused _ _ (ap layout_parsed c.in-Refused.is) c.examine-e.ensures.result_value
