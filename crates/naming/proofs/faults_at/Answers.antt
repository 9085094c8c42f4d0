use Rattle.naming.proofs.faults_at.Goals as goal

pub returns-then-next-ne0 : goal.returns-then-next-ne0
returns-then-next-ne0 c = λ i. (c.fit_at-next.ensures i c.if-next-ne0.true).1
