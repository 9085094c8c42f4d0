use Rattle.tables.specs.Kinds.{readable_kind}
use Rattle.naming.proofs.JudgedLaws.{register_judged}
use Rattle.naming.proofs.capture_fault.Goals as goal

pub returns : goal.returns
unfolding readable_kind
returns c = λ i. register_judged _ _ _ _ _ _ (c.find_name-k.ensures i) c.entry.ensures readable_kind c.register_fault.ensures
