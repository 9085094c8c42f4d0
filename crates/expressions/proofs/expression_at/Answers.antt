use Rattle.expressions.proofs.expression_at.Goals as goal

pub returns-then-next-ne0 : goal.returns-then-next-ne0
returns-then-next-ne0 c = c.end_of-next.ensures c.if-next-ne0.true
