use Rattle.naming.proofs.JudgedLaws.{name_judged}
use Rattle.naming.proofs.name_fault.Goals as goal

pub returns : goal.returns
returns c = λ i. name_judged _ _ _ _ _ _ (c.find_name-k.ensures i) c.entry.ensures _ c.register_fault.ensures
