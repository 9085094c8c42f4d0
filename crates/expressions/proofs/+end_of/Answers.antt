use mathlib.Core.Path.{◌≡◌, refl}
use native.Mathlib.Omega.{arith}
use Rattle.expressions.proofs.HeadLaws.{down_none}
use Rattle.expressions.proofs.OpeningLaws.{unsaid, opening_level, opening_row, down_on}
use Rattle.expressions.proofs.+end_of.Goals as goal

pub returns-then-o-eq0 : goal.returns-then-o-eq0
returns-then-o-eq0 t c = unsaid

pub overflow_add-place : goal.overflow_add-place
overflow_add-place t c = omega (arith, (c.opening_at-o.ensures c.if-o-eq0.false).within)

pub loop-left-init : goal.loop-left-init
loop-left-init t c = let o = c.opening_at-o.ensures c.if-o-eq0.false in (opening_level _ _ _ o, opening_row _ _ _ o)

pub end_of-next-requires : goal.end_of-next-requires
end_of-next-requires t c = (omega arith, tt)

pub loop-left-preserved : goal.loop-left-preserved
loop-left-preserved t c =
    let accepted : c.end_of-next.result ≡ 0 → ⊥ = λ e. omega arith in
    (c.loop-left.invariant.0, down_on _ _ _ c.loop-left.invariant.1 (c.end_of-next.ensures accepted) c.loop-left-test.true)

pub returns : goal.returns
returns t c = λ _. down_none _ _ _ c.loop-left.invariant.1 c.loop-left-test.false refl
