use mathlib.Core.Path.{refl}
use Rattle.format.specs.Verdict.{address_in}
use Rattle.index.proofs.addresses.absent.Goals as goal

pub returns : goal.returns
unfolding address_in
returns c = refl
