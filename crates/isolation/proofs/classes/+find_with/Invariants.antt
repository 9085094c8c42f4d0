use Rattle.isolation.proofs.classes.+find_with.Given as goal

abbrev pub decreases-find_with : goal.decreases-find_with
decreases-find_with l = l.larger
