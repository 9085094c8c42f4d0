-- The classes that are larger fall in number.
use Rattle.writer.proofs.classes.+write_with.Given as goal

abbrev pub decreases-write_with : goal.decreases-write_with
decreases-write_with l = l.larger
