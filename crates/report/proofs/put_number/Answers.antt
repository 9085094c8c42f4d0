use native.Mathlib.Omega.{arith}
use Rattle.report.proofs.TextLaws.{put_as}
use Rattle.report.proofs.DecimalLaws.{digits_few, digits_decimal}
use Rattle.report.proofs.put_number.Goals as goal

pub put-requires : goal.put-requires
put-requires c =
    omega (arith, c.decimal-k.ensures.in_bounds.1, digits_few _ _ c.decimal-k.ensures.len (omega arith))

pub returns : goal.returns
returns c =
    put_as c.put.ensures (digits_decimal _ _ c.decimal-k.ensures.len (omega arith) c.decimal-k.ensures.digits)
