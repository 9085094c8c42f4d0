use Rattle.isolation.proofs.isolate.Goals as goal

pub returns : goal.returns
returns c = c.isolate_with.ensures
