use Prim.Native.Nat.{◌+◌}
use native.Mathlib.Omega.{arith}
use Rattle.expressions.proofs.OpeningLaws.{openings, unsaid}
use Rattle.expressions.proofs.opening_at.Goals as goal

pub returns-then-levels-eq0 : goal.returns-then-levels-eq0
returns-then-levels-eq0 c = unsaid

pub returns-then-s-at : goal.returns-then-s-at
returns-then-s-at c = unsaid

pub returns-then-room-lt5 : goal.returns-then-room-lt5
returns-then-room-lt5 c = unsaid

pub returns-then-kind-eq1 : goal.returns-then-kind-eq1
returns-then-kind-eq1 c = λ _. search openings

pub returns-then-room-lt9 : goal.returns-then-room-lt9
returns-then-room-lt9 c = unsaid

pub returns-then-kind-eq2 : goal.returns-then-kind-eq2
returns-then-kind-eq2 c = λ _. search openings

pub returns-then-kind-eq18 : goal.returns-then-kind-eq18
returns-then-kind-eq18 c = λ _. search openings

pub returns-then-room-lt2 : goal.returns-then-room-lt2
returns-then-room-lt2 c = unsaid

pub returns-then-n-lt1 : goal.returns-then-n-lt1
returns-then-n-lt1 c = unsaid

pub returns-then-kind-eq19 : goal.returns-then-kind-eq19
returns-then-kind-eq19 c = λ _. search openings

pub returns-then-kind-eq20 : goal.returns-then-kind-eq20
returns-then-kind-eq20 c = λ _. search openings

pub returns-then-n-lt2 : goal.returns-then-n-lt2
returns-then-n-lt2 c = unsaid

pub overflow_cast-result : goal.overflow_cast-result
overflow_cast-result c = omega (arith, c.type_inv.s (c.args.at + 1))

pub overflow_add-result : goal.overflow_add-result
overflow_add-result c = omega (arith, c.type_inv.s (c.args.at + 1))

pub returns-then-kind-eq16 : goal.returns-then-kind-eq16
returns-then-kind-eq16 c = λ _. search (openings, (c.type_inv.s (c.args.at + 1)).fits)

pub overflow_cast-result-then-kind-eq17 : goal.overflow_cast-result-then-kind-eq17
overflow_cast-result-then-kind-eq17 c = omega (arith, c.type_inv.s (c.args.at + 1))

pub overflow_add-result-then-kind-eq17 : goal.overflow_add-result-then-kind-eq17
overflow_add-result-then-kind-eq17 c = omega (arith, c.type_inv.s (c.args.at + 1))

pub returns-then-kind-eq17 : goal.returns-then-kind-eq17
returns-then-kind-eq17 c = λ _. search (openings, (c.type_inv.s (c.args.at + 1)).fits)

pub returns : goal.returns
returns c = unsaid
