use Rattle.index.proofs.SizeLaws.{size_four, size_eight}
use Rattle.index.proofs.addresses.address_size.Goals as goal

pub returns-then-kind-eq1 : goal.returns-then-kind-eq1
returns-then-kind-eq1 c = size_four _ c.if-kind-eq1.true

pub returns : goal.returns
returns c = size_eight _ c.if-kind-eq1.false
