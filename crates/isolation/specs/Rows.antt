-- What the code finds of a file, as rows at the front of two tables.
use Rattle.std.specs.Prelude.{Result, Ok, Err}
use Rattle.format.specs.declared.Refusal.{Refusal}
use Rattle.std.specs.Prelude.{ℕ, ◌*◌, ◌≤◌, Bool, true, not, List, eqb, length}
use Rattle.limits.specs.Classes.{Class}
use Rattle.limits.specs.Limits.{library_limits}
use Rattle.format.specs.Refusals.{number_of}
use Rattle.reader.specs.Examined.{Lengths}
use Rattle.listing.specs.Rows.{first_rows, kept_count, kept_records}
use Rattle.isolation.specs.declared.Kept.{Kept}
use Rattle.isolation.specs.Outcome.{Findings, stopped, found}

-- The paper's values of what the code found, by the tables that hold its rows.
abbrev pub found_of : ℕ → Result Kept Refusal → List ℕ → List ℕ → Findings
found_of attention (Ok k) heads words =
    found (kept_count (first_rows k.rows heads words)) (kept_records attention (first_rows k.rows heads words)) k.steps
found_of attention (Err r) heads words = stopped (number_of r.kind) r.place

-- The rows are within the tables, and no more than a file has node instances.
abbrev pub RowsWithin : Result Kept Refusal → List ℕ → List ℕ → Type 0
RowsWithin (Ok k) heads words = (k.rows ≤ library_limits.node_instances) × (k.rows ≤ length heads) × (k.rows ≤ length words)
RowsWithin (Err r) heads words = Unit {0}

-- An answer that is not 43, which says that a table of the code was too short.
unfoldable pub is_found : Result Kept Refusal → Bool
is_found (Ok k) = true
is_found (Err r) = not (eqb (number_of r.kind) 43)

-- The lengths of a class's tables, with a lent table for the places of node instances.
unfoldable pub lent_room : Class → ℕ → Lengths
lent_room k places = record { keys = k.registers; kinds = k.registers; names = k.nodes; wanted = k.nodes; places = places; child = k.nodes * 64 }
