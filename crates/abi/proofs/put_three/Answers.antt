use mathlib.Core.List.{[], ◌∷◌}
use native.Mathlib.Omega.{arith}
use lib.ListN.{length-set}
use Rattle.tables.specs.Tables.{written}
use Rattle.abi.proofs.ValuesLaws.{answered_short, answered_long}
use Rattle.abi.proofs.put_three.Goals as goal

pub returns-then-out-lt3 : goal.returns-then-out-lt3
returns-then-out-lt3 c = answered_short _ _ c.if-out-lt3.true

pub bounds-out-1 : goal.bounds-out-1
bounds-out-1 c = simp length-set (omega arith)

pub returns : goal.returns
unfolding written
returns c = answered_long (c.args.a ∷ c.args.b ∷ c.args.c ∷ []) _ c.if-out-lt3.false
