use mathlib.Core.Path.{refl}
use Rattle.numbers.proofs.Bools.{clash}
use Rattle.naming.proofs.FitLaws.{key_found}
use Rattle.naming.proofs.key_fits.Goals as goal

pub returns-then-k-keys : goal.returns-then-k-keys
returns-then-k-keys c = λ i. key_found _ _ _ _ (c.find-k.ensures i) c.if-k-keys.true c.entry.ensures

pub returns : goal.returns
returns c = λ i e. clash e refl
