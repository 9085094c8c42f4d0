use Rattle.walk.proofs.Walk.waiting.Goals as goal

pub returns : goal.returns
returns c = λ e. rw (c.first.ensures e)
