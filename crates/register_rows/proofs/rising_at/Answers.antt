use native.Mathlib.Omega.{arith}
use Rattle.index.proofs.FillingLaws.{covered_none}
use Rattle.register_rows.proofs.RisingLaws.{risen_begin, risen_there, risen_next, risen_covered, risen_end, sizes_small}
use Rattle.register_rows.proofs.rising_at.Goals as goal

pub returns-then-s-at : goal.returns-then-s-at
returns-then-s-at c = record {
  at_value = λ h. absurd (omega arith);
  covered = covered_none _ _ _;
}

pub overflow_mul-n : goal.overflow_mul-n
overflow_mul-n c = omega (arith, sizes_small c.args.count _ (omega arith) c.instance_size-size.ensures)

pub returns-then-s-at-2 : goal.returns-then-s-at-2
returns-then-s-at-2 c = record {
  at_value = λ h. absurd (omega arith);
  covered = covered_none _ _ _;
}

pub returns-then-limit-total : goal.returns-then-limit-total
returns-then-limit-total c = record {
  at_value = λ h. absurd (omega arith);
  covered = covered_none _ _ _;
}

pub returns-then-limit-total-2 : goal.returns-then-limit-total-2
returns-then-limit-total-2 c = record {
  at_value = λ h. absurd (omega arith);
  covered = covered_none _ _ _;
}

pub returns-then-keys-total : goal.returns-then-keys-total
returns-then-keys-total c = record {
  at_value = λ h. absurd (omega arith);
  covered = covered_none _ _ _;
}

pub returns-then-kinds-total : goal.returns-then-kinds-total
returns-then-kinds-total c = record {
  at_value = λ h. absurd (omega arith);
  covered = covered_none _ _ _;
}

pub loop-left-init : goal.loop-left-init
loop-left-init c = risen_begin _ _ _ _ _ _ _ _ _ _ c.instance_size-size.ensures (omega arith) (omega arith)

pub bounds-s-place : goal.bounds-s-place
bounds-s-place c = omega (arith, risen_there _ _ _ _ _ _ _ _ _ c.loop-left.invariant c.loop-left-test.true, c.loop-left.invariant.size_is)

pub overflow_cast-x : goal.overflow_cast-x
overflow_cast-x c = omega (arith, c.type_inv.s c.loop-left.place)

pub shape_of-keys-then-x-bound : goal.shape_of-keys-then-x-bound
shape_of-keys-then-x-bound c = c.loop-left.invariant.sized.keys

pub shape_of-kinds-then-x-bound : goal.shape_of-kinds-then-x-bound
shape_of-kinds-then-x-bound c = c.loop-left.invariant.sized.kinds

pub returns-then-x-bound : goal.returns-then-x-bound
returns-then-x-bound c = record {
  at_value = λ h. absurd (omega arith);
  covered = risen_covered _ _ _ _ _ _ _ _ _ c.loop-left.invariant;
}

pub bounds-keys-k : goal.bounds-keys-k
bounds-keys-k c = omega (arith, c.loop-left.invariant.among, c.loop-left.invariant.sized.keys)

pub bounds-kinds-k : goal.bounds-kinds-k
bounds-kinds-k c = omega (arith, c.loop-left.invariant.among, c.loop-left.invariant.sized.kinds)

pub overflow_cast-bound : goal.overflow_cast-bound
overflow_cast-bound c = omega (arith, c.type_inv.s c.loop-left.place)

pub overflow_add-bound : goal.overflow_add-bound
overflow_add-bound c = omega (arith, c.type_inv.s c.loop-left.place)

pub overflow_add-place : goal.overflow_add-place
overflow_add-place c = omega (arith, risen_there _ _ _ _ _ _ _ _ _ c.loop-left.invariant c.loop-left-test.true)

pub overflow_add-k : goal.overflow_add-k
overflow_add-k c = omega (arith, c.loop-left.invariant.among, c.loop-left.invariant.room)

pub loop-left-preserved : goal.loop-left-preserved
loop-left-preserved c =
    risen_next _ _ _ _ _ _ _ _ _ c.loop-left.invariant c.loop-left-test.true c.if-x-bound.false c.key.ensures

pub shape_of-keys : goal.shape_of-keys
shape_of-keys c = c.loop-left.invariant.sized.keys

pub shape_of-kinds : goal.shape_of-kinds
shape_of-kinds c = c.loop-left.invariant.sized.kinds

pub returns : goal.returns
returns c = record {
  at_value = λ h. risen_end _ _ _ _ _ _ _ _ _ c.loop-left.invariant c.loop-left-test.false;
  covered = risen_covered _ _ _ _ _ _ _ _ _ c.loop-left.invariant;
}
