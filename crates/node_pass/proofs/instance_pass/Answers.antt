use mathlib.Core.Path.{refl}
use native.Mathlib.Omega.{arith}
use Rattle.expressions.proofs.OpeningLaws.{unsaid}
use Rattle.node_pass.proofs.InstanceLaws.{instance_passed}
use Rattle.node_pass.proofs.instance_pass.Goals as goal

pub returns-then-s-at : goal.returns-then-s-at
returns-then-s-at c = λ i. unsaid

pub returns-then-s-at-lt4 : goal.returns-then-s-at-lt4
returns-then-s-at-lt4 c = λ i. unsaid

pub overflow_cast-number : goal.overflow_cast-number
overflow_cast-number c = omega (arith, c.type_inv.s c.args.at)

pub returns-then-number-bound : goal.returns-then-number-bound
returns-then-number-bound c = λ i. unsaid

pub returns-then-rules-eq0 : goal.returns-then-rules-eq0
returns-then-rules-eq0 c = λ i. unsaid

pub returns-then-middle-eq0 : goal.returns-then-middle-eq0
returns-then-middle-eq0 c = λ i. unsaid

pub returns-then-s-middle : goal.returns-then-s-middle
returns-then-s-middle c = λ i. unsaid

pub returns : goal.returns
returns c =
    λ i z. instance_passed _ _ _ _ _ _ c.if-number-bound.false c.if-rules-eq0.false refl refl refl (c.names_pass-p.ensures i c.if-middle-eq0.false) (c.children_pass-end.ensures z) refl c.packed.ensures refl
    (omega (arith, c.if-s-at-lt4.false, c.if-s-at.false))
