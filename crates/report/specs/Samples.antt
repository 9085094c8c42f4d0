-- Document 01, "Bench samples": all starred samples as one table, with what the program prints for B1, three files that show document 02 (i), and one that shows (iii).
use Rattle.std.specs.Prelude.{ℕ, List, [], ◌∷◌, ◌≡◌}
use Rattle.format.specs.Samples.{b1}
use Rattle.isolation.specs.Samples as calls
use Rattle.report.specs.Report.{report}

-- A row: a sample of a call; or a file, a type and a readings file, with the whole text.
pub data Row : Type 0 where
  calling : calls.Row → Row
  printing : List ℕ → ℕ → List ℕ → List ℕ → Row

abbrev pub Holds : Row → Type 0
Holds (calling r) = calls.Holds r
Holds (printing file attention readings text) = report file attention readings ≡ text

abbrev pub AllHold : List Row → Type 0
AllHold [] = Unit {0}
AllHold (r ∷ rs) = Holds r × AllHold rs

-- The samples of calls, before other rows.
abbrev pub called : List calls.Row → List Row → List Row
called [] rest = rest
called (r ∷ rs) rest = calling r ∷ called rs rest

-- The readings file of B1 with reading 8000000000000000 hex.
unfoldable pub reading : List ℕ
reading = 0x00 ∷ 0x00 ∷ 0x01 ∷ 0x00 ∷ 0x01 ∷ 0x00 ∷ 0x00 ∷ 0x00 ∷ 0x80 ∷ 0x00 ∷ 0x00 ∷ 0x00 ∷ 0x00 ∷ 0x00 ∷ 0x00 ∷ 0x00 ∷ []

-- "type 3 node 1 inst 0 bit 0" and "steps 1", each with the end of its line.
unfoldable pub found : List ℕ
found =
    0x74 ∷ 0x79 ∷ 0x70 ∷ 0x65 ∷ 0x20 ∷ 0x33 ∷ 0x20 ∷ 0x6e ∷ 0x6f ∷ 0x64 ∷ 0x65 ∷ 0x20 ∷ 0x31 ∷ 0x20
    ∷ 0x69 ∷ 0x6e ∷ 0x73 ∷ 0x74 ∷ 0x20 ∷ 0x30 ∷ 0x20 ∷ 0x62 ∷ 0x69 ∷ 0x74 ∷ 0x20 ∷ 0x30 ∷ 0x0a
    ∷ 0x73 ∷ 0x74 ∷ 0x65 ∷ 0x70 ∷ 0x73 ∷ 0x20 ∷ 0x31 ∷ 0x0a ∷ []

-- "refused 15 place 0", with the end of its line.
unfoldable pub unknown : List ℕ
unknown =
    0x72 ∷ 0x65 ∷ 0x66 ∷ 0x75 ∷ 0x73 ∷ 0x65 ∷ 0x64 ∷ 0x20 ∷ 0x31 ∷ 0x35 ∷ 0x20
    ∷ 0x70 ∷ 0x6c ∷ 0x61 ∷ 0x63 ∷ 0x65 ∷ 0x20 ∷ 0x30 ∷ 0x0a ∷ []

-- "The program prints in all: ..", for B1 with type 3; and "The program prints `refused 15 place 0`", with type 6.
abbrev pub prints : List Row
prints = printing b1 3 reading found ∷ printing b1 6 reading unknown ∷ []

abbrev pub samples : List Row
samples = called calls.samples prints
