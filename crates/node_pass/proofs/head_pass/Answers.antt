use Prim.Native.Nat.{◌+◌}
use mathlib.Core.Path.{refl}
use native.Mathlib.Omega.{arith}
use Rattle.expressions.proofs.OpeningLaws.{unsaid}
use Rattle.node_pass.proofs.NodeLaws.{head_passed}
use Rattle.node_pass.proofs.head_pass.Goals as goal

pub returns-then-s-at : goal.returns-then-s-at
returns-then-s-at c = unsaid

pub returns-then-s-at-lt4 : goal.returns-then-s-at-lt4
returns-then-s-at-lt4 c = unsaid

pub overflow_cast-id : goal.overflow_cast-id
overflow_cast-id c = omega (arith, c.type_inv.s c.args.at)

pub overflow_mul-id : goal.overflow_mul-id
overflow_mul-id c = omega (arith, c.type_inv.s c.args.at)

pub overflow_cast-id-2 : goal.overflow_cast-id-2
overflow_cast-id-2 c = omega (arith, c.type_inv.s (c.args.at + 1))

pub overflow_add-id-2 : goal.overflow_add-id-2
overflow_add-id-2 c = omega (arith, c.type_inv.s c.args.at, c.type_inv.s (c.args.at + 1))

pub returns-then-id-bound : goal.returns-then-id-bound
returns-then-id-bound c = unsaid

pub returns-then-kind-lt1 : goal.returns-then-kind-lt1
returns-then-kind-lt1 c = unsaid

pub returns-then-kind-gt2 : goal.returns-then-kind-gt2
returns-then-kind-gt2 c = unsaid

pub returns : goal.returns
returns c =
    λ z. head_passed _ _ _ c.if-id-bound.false c.if-kind-lt1.false c.if-kind-gt2.false z refl refl refl (c.type_inv.s c.args.at).fits (c.type_inv.s (c.args.at + 1)).fits (omega (arith, c.if-s-at-lt4.false, c.if-s-at.false))
