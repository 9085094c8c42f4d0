use mathlib.Core.Path.{sym, ◌∙◌, ap}
use Rattle.format.proofs.Acceptance.{verdict_out}
use Rattle.reader.specs.Layout.{layout_parsed}
use Rattle.reader.proofs.AddressLaws.{accepted, address_accepted, address_refused}
use Rattle.reader.proofs.address.address.Goals as goal

pub returns-in-Done : goal.returns-in-Done
returns-in-Done c =
    let a = accepted _ _ (ap layout_parsed c.in-Done.is) c.examine-e.ensures.result_value in
    c.laid_address.ensures a.0 (sym (ap layout_parsed c.in-Done.is) ∙ c.examine-e.ensures.result_value_2 _ c.in-Done.is) (verdict_out _ _ a.1).read ∙ address_accepted _ _ _ _ a.1

pub returns-in-Refused : goal.returns-in-Refused
returns-in-Refused c = address_refused _ _ (ap layout_parsed c.in-Refused.is) c.examine-e.ensures.result_value _ _
