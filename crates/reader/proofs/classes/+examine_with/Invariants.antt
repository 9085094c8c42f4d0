-- The classes that are larger fall in number.
use Rattle.reader.proofs.classes.+examine_with.Given as goal

abbrev pub decreases-examine_with : goal.decreases-examine_with
decreases-examine_with l = l.larger
