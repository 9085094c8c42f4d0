use Rattle.std.proofs.Common.{arith, ◌∙◌}
use Rattle.numbers.proofs.BigEndianLaws.{onward_start, onward_more, onward_end, room, step_below}
use Rattle.numbers.proofs.big_endian.Goals as goal

pub loop-b-init : goal.loop-b-init
loop-b-init c = record { below = omega arith; whole = onward_start _ }

pub overflow_mul-value : goal.overflow_mul-value
overflow_mul-value c = omega (arith, room c.loop-b.b-index (omega arith))

pub overflow_add-value : goal.overflow_add-value
overflow_add-value c = omega (arith, room c.loop-b.b-index (omega arith), c.type_inv.s c.loop-b.b-index)

pub loop-b-preserved : goal.loop-b-preserved
loop-b-preserved c =
    let v = c.loop-b.value in
    let i = c.loop-b.b-index in
    record {
      below = step_below v i _ c.loop-b.invariant.below (omega (arith, c.from.ensures, c.type_inv.s i));
      whole = rw c.from.ensures (onward_more _ v i c.loop-b-test.true) ∙ c.loop-b.invariant.whole;
    }

pub returns : goal.returns
returns c = onward_end _ _ _ c.loop-b.invariant.whole c.loop-b-test.false
