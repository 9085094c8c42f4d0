use Prim.Native.Nat.{◌%◌}
use mathlib.Core.Path.{◌≡◌, refl}
use native.Mathlib.Omega.{arith}
use Rattle.numbers.proofs.Bools.{clash}
use Rattle.naming.proofs.FitRowsLaws.{captures_begin, captures_next, captures_end}
use Rattle.naming.proofs.captures_fit.Goals as goal

pub returns-then-s-at : goal.returns-then-s-at
returns-then-s-at c = λ i e. clash e refl

pub returns-then-s-at-2 : goal.returns-then-s-at-2
returns-then-s-at-2 c = λ i e. clash e refl

pub loop-left-init : goal.loop-left-init
loop-left-init c =
    (omega arith, refl, λ i. captures_begin _ _ _ _ _)

pub key_at-requires : goal.key_at-requires
key_at-requires c = omega (arith, c.loop-left.invariant.0, c.loop-left-test.true)

pub returns-then-keys-k : goal.returns-then-keys-k
returns-then-keys-k c = λ i e. clash e refl

pub overflow_add-place : goal.overflow_add-place
overflow_add-place c =
    omega (arith, c.loop-left.invariant.0, c.loop-left-test.true)

pub loop-left-preserved : goal.loop-left-preserved
loop-left-preserved c =
    let readable : c.entry.result % 2 ≡ 1 = omega arith in (
      omega (arith, c.loop-left.invariant.0, c.loop-left-test.true),
      omega (arith, c.loop-left.invariant.1, c.loop-left-test.true),
      λ i. captures_next (c.loop-left.invariant.2 i) c.loop-left-test.true c.loop-left.invariant.0 c.key_at.ensures (c.find-k.ensures i) c.if-keys-k.false c.entry.ensures readable,
    )

pub returns : goal.returns
returns c = λ i _. captures_end (c.loop-left.invariant.2 i) c.loop-left-test.false c.loop-left.invariant.1
