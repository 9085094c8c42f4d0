use Rattle.reader.proofs.CycleLaws.{fault_found, fault_none}
use Rattle.reader.proofs.faults.cycle_fault.Goals as goal

pub returns-then-k-n : goal.returns-then-k-n
returns-then-k-n c = λ of s chip end table bytes file clean places long filled. fault_found of s bytes chip file clean _ table places long filled c.first_cycle-k.ensures _ c.if-k-n.true

pub returns : goal.returns
returns c = λ of s chip end table bytes file clean places long filled. fault_none of s bytes chip file clean _ table places long filled c.first_cycle-k.ensures _ c.if-k-n.false
