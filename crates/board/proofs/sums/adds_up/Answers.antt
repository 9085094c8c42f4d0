use native.Mathlib.Omega.{arith}
use borrow.Author.Rules.{rules}
use Rattle.board.proofs.SumsLaws.{total_all, too_much, sum_next, sum_end}
use Rattle.board.proofs.sums.adds_up.Goals as goal

pub loop-i-init : goal.loop-i-init
loop-i-init c = (omega arith, omega (arith, total_all c.args.lengths.now))

pub returns-then-left-n : goal.returns-then-left-n
returns-then-left-n c =
    too_much _ _ _ _ c.loop-i.invariant.1 c.loop-i-test.true c.if-left-n.true

pub loop-i-preserved : goal.loop-i-preserved
loop-i-preserved c =
    (search rules, sum_next _ _ _ _ c.loop-i.invariant.1 c.loop-i-test.true c.if-left-n.false (omega arith))

pub returns : goal.returns
returns c =
    sum_end c.args.lengths.now _ _ c.loop-i.i c.loop-i.invariant.1 (omega arith)
