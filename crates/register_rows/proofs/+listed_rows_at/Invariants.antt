-- The measure is how many classes are larger.
use Rattle.register_rows.proofs.+listed_rows_at.Given as goal

abbrev pub decreases-listed_rows_at : goal.decreases-listed_rows_at
decreases-listed_rows_at l = l.larger
