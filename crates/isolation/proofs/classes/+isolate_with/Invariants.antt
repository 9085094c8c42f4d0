-- The classes that are larger fall in number.
use Rattle.isolation.proofs.classes.+isolate_with.Given as goal

abbrev pub decreases-isolate_with : goal.decreases-isolate_with
decreases-isolate_with l = l.larger
