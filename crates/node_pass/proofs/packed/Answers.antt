use Rattle.node_pass.proofs.InstanceLaws.{packed_none, packed_some}
use Rattle.node_pass.proofs.packed.Goals as goal

pub returns-then-n-eq0 : goal.returns-then-n-eq0
returns-then-n-eq0 c = packed_none _ _ c.if-n-eq0.true

pub returns : goal.returns
returns c = packed_some _ _ c.if-n-eq0.false
