use native.Mathlib.Omega.{arith}
use borrow.Author.Count.{below_more}
use borrow.Author.Rules.{rules}
use Rattle.isolation.proofs.ActivityLaws.{known_no, known_yes}
use Rattle.isolation.proofs.active.all_known.Goals as goal

pub returns-then-read-i-gt1 : goal.returns-then-read-i-gt1
returns-then-read-i-gt1 c =
    known_no c.args.read.now c.loop-i.i c.loop-i-test.true c.if-read-i-gt1.true

pub loop-i-preserved : goal.loop-i-preserved
loop-i-preserved c =
    (search rules, below_more _ _ c.loop-i.invariant.1 (λ l. absurd (omega arith)))

pub returns : goal.returns
returns c =
    known_yes c.args.read.now (λ k l. c.loop-i.invariant.1 k (omega arith))
