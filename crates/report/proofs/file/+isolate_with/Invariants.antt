-- The classes that are larger fall in number.
use Rattle.report.proofs.file.+isolate_with.Given as goal

abbrev pub decreases-isolate_with : goal.decreases-isolate_with
decreases-isolate_with l = l.larger
