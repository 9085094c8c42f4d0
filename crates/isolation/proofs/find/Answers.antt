use Rattle.isolation.proofs.find.Goals as goal

pub returns : goal.returns
returns c = record { exact = c.find_with.ensures.exact; enough = c.find_with.ensures.enough; within = c.find_with.ensures.within }
