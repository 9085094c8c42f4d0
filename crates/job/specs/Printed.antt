-- How many bytes the station prints.
use Rattle.std.specs.Prelude.{ℕ, List, ◌≡◌, length}
use Rattle.report.specs.Report.{report}

-- So many bytes has the text for some chip data file, type and readings file: which these are, no contract says.
pub record Printed (n : ℕ) : Type 0 where
  pub chip : List ℕ
  pub attention : ℕ
  pub readings : List ℕ
  pub bytes : n ≡ length (report chip attention readings)
