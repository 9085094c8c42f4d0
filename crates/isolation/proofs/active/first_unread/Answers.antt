use borrow.Author.Rules.{rules}
use Rattle.isolation.proofs.ActivityLaws.{first_begin, first_more, first_found, first_end}
use Rattle.isolation.proofs.active.first_unread.Goals as goal

pub loop-i-init : goal.loop-i-init
loop-i-init c = (search rules, first_begin _ _)

pub returns-then-p-ne0 : goal.returns-then-p-ne0
returns-then-p-ne0 c =
    first_found _ _ _ _ c.loop-i-test.true c.loop-i.invariant.1 c.unread_at-p.ensures c.if-p-ne0.true

pub loop-i-preserved : goal.loop-i-preserved
loop-i-preserved c =
    (search rules, first_more _ _ _ c.loop-i.invariant.1 c.unread_at-p.ensures c.if-p-ne0.false)

pub returns : goal.returns
returns c = first_end _ _ _ _ c.loop-i.invariant.0 c.loop-i-test.false c.loop-i.invariant.1
