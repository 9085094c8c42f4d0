-- What the code finds of some slots, as rows at the front of two tables.
use Rattle.std.specs.Prelude.{ℕ, ◌*◌, ◌≤◌, Bool, true, not, List, eqb, length}
use Rattle.limits.specs.Limits.{library_limits}
use Rattle.format.specs.Refusals.{number_of}
use Rattle.listing.specs.Rows.{first_rows, kept_count, kept_records}
use Rattle.board.specs.declared.Gathered.{Gathered}
use Rattle.board.specs.Board.{Together, stopped_at, joined}

-- The paper's values of what the code found, by the tables that hold its rows.
abbrev pub gathered_of : ℕ → Gathered → List ℕ → List ℕ → Together
gathered_of attention (Gathered.Rows k) heads words =
    joined (kept_count (first_rows k.rows heads words)) (kept_records attention (first_rows k.rows heads words)) k.steps
gathered_of attention (Gathered.Refused r slot) heads words = stopped_at (number_of r.kind) r.place slot

-- The rows are within the tables; they and the steps are no more than the files of n slots have node instances.
abbrev pub GatheredWithin : Gathered → ℕ → List ℕ → List ℕ → Type 0
GatheredWithin (Gathered.Rows k) n heads words =
    (k.rows ≤ n * library_limits.node_instances) × (k.rows ≤ length heads) × (k.rows ≤ length words) × (k.steps ≤ n * library_limits.node_instances)
GatheredWithin (Gathered.Refused r slot) n heads words = Unit {0}

-- An answer that is not 43, which says that a table of the code was too short.
unfoldable pub is_gathered : Gathered → Bool
is_gathered (Gathered.Rows k) = true
is_gathered (Gathered.Refused r slot) = not (eqb (number_of r.kind) 43)
