use native.Mathlib.Omega.{arith}
use Rattle.numbers.proofs.FieldLaws.{number_whole}
use Rattle.numbers.proofs.number_at.Goals as goal

pub returns : goal.returns
returns c = number_whole _ _ c.size-n.ensures c.big_endian.ensures (omega arith)
