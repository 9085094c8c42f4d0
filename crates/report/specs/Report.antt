-- The station's answer. Document 01: "A small program that reads a file and a readings file of fixed names and prints the list, all numbers decimal."
use Rattle.std.specs.Prelude.{ℕ, cond, List, [], ◌∷◌, replicate}
use Rattle.limits.specs.Limits.{Limits, program_limits}
use Rattle.format.specs.Fields.{known_attention}
use Rattle.format.specs.Parsed.{Parsed, done, refused}
use Rattle.format.specs.Tree.{Root, Chip}
use Rattle.format.specs.Verdict.{verdict}
use Rattle.tables.specs.Keys.{register_keys}
use Rattle.readings.specs.ReadingsFile.{file_fits, words_of, read_of}
use Rattle.format.specs.Finding.{root_for}
use Rattle.isolation.specs.Outcome.{Outcome, Findings, stopped, from_root, in_list}
use Rattle.report.specs.Text.{text_of}

-- A readings file in place of readings. 17: "for the readings file also a wrong size, ID, instance, zero byte or unread value"; 16 comes before it. The chip has slot 0.
unfoldable pub file_from_root : Chip → ℕ → List ℕ → List Root → Findings
file_from_root c attention readings [] = stopped 16 0
file_from_root c attention readings (t ∷ ts) =
    cond (file_fits (register_keys c) readings)
    (from_root c 0 attention (words_of (register_keys c) readings) (read_of (register_keys c) readings) (t ∷ ts))
    (stopped 17 0)

unfoldable pub find_file_in : ℕ → List ℕ → Parsed Chip → Findings
find_file_in attention readings (refused n p) = stopped n p
find_file_in attention readings (done c end) =
    cond (known_attention attention) (file_from_root c attention readings (root_for attention c)) (stopped 15 0)

-- What isolation finds in a chip data file with a readings file, by the limits that hold.
unfoldable pub find_file : Limits → List ℕ → ℕ → List ℕ → Findings
find_file limits file attention readings = find_file_in attention readings (verdict limits file)

-- The answer by a list.
unfoldable pub isolate_file : Limits → List ℕ → ℕ → List ℕ → List ℕ → Outcome
isolate_file limits file attention readings list = in_list list (find_file limits file attention readings)

-- "Its list holds 4,096 records."
unfoldable pub station_list : List ℕ
station_list = replicate 65536 0

-- What the station prints for a file, a type and a readings file. "The program keeps 01's limits for bytes and instances and refuses by 1 and 8 there" (document 02, x).
unfoldable pub report : List ℕ → ℕ → List ℕ → List ℕ
report file attention readings = text_of (isolate_file program_limits file attention readings station_list)
