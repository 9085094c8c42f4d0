use native.Mathlib.Omega.{arith}
use Rattle.report.proofs.TextLaws.{putting_begin, putting_next, putting_end}
use Rattle.report.proofs.put.Goals as goal

pub loop-i-init : goal.loop-i-init
loop-i-init c = putting_begin

pub overflow_add-at : goal.overflow_add-at
overflow_add-at c = omega arith

pub loop-i-preserved : goal.loop-i-preserved
loop-i-preserved c =
    putting_next c.loop-i.invariant c.loop-i-test.true c.put_byte.ensures

pub overflow_add-result : goal.overflow_add-result
overflow_add-result c = omega arith

pub shape_of-text : goal.shape_of-text
shape_of-text c = c.loop-i.invariant.same

pub returns : goal.returns
returns c = putting_end c.loop-i.invariant c.loop-i-test.false
