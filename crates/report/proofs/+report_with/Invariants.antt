-- The classes that are larger fall in number.
use Rattle.report.proofs.+report_with.Given as goal

abbrev pub decreases-report_with : goal.decreases-report_with
decreases-report_with l = l.larger
