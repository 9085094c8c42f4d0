-- The whole answer of isolation: number and place, or records and steps; and the list's bytes after the call.
use Rattle.std.specs.Prelude.{Result, Ok, Err}
use Rattle.format.specs.declared.Refusal.{Refusal}
use Rattle.std.specs.Prelude.{ℕ, ◌*◌, ◌/◌, Bool, true, cond, not, List, [], ◌∷◌, ◌++◌, eqb, leb, length, drop}
use Rattle.graph.specs.Chains.{Graph, below, reached_from, reached_count}
use Rattle.limits.specs.Limits.{Limits}
use Rattle.format.specs.Fields.{known_attention}
use Rattle.format.specs.Lookup.{at, gathered, NodeEntry, node_entries, node_position}
use Rattle.format.specs.Parsed.{Parsed, done, refused}
use Rattle.format.specs.References.{Fault}
use Rattle.format.specs.Refusals.{number_of}
use Rattle.format.specs.Tree.{Root, Chip}
use Rattle.format.specs.Verdict.{verdict}
use Rattle.isolation.specs.declared.Isolation.{Isolation}
use Rattle.isolation.specs.Readings.{readings_fit}
use Rattle.format.specs.Finding.{rule_for, root_for}
use Rattle.isolation.specs.ChipGraph.{rule_unread, chip_graph}
use Rattle.listing.specs.Records.{record_size, listing, records_of}

-- The answer in the paper's numbers: number 0 is success; "Each refusal returns its number and place, zero records and zero steps, and the list keeps its bytes."
pub record Outcome : Type 0 where
  pub number : ℕ
  pub place : ℕ
  pub records : ℕ
  pub steps : ℕ
  pub list : List ℕ

abbrev pub refused_outcome : ℕ → ℕ → List ℕ → Outcome
refused_outcome n p list = record { number = n; place = p; records = 0; steps = 0; list = list }

abbrev pub done_outcome : ℕ → ℕ → List ℕ → Outcome
done_outcome r s list = record { number = 0; place = 0; records = r; steps = s; list = list }

-- The paper's values of the code's answer, with what the list holds after the call.
abbrev pub outcome_of : Result Isolation Refusal → List ℕ → Outcome
outcome_of (Ok i) list = done_outcome i.records i.steps list
outcome_of (Err r) list = refused_outcome (number_of r.kind) r.place list

-- An answer that is not 43, which says that a table of the code was too short.
unfoldable pub is_exact : Result Isolation Refusal → Bool
is_exact (Ok i) = true
is_exact (Err r) = not (eqb (number_of r.kind) 43)

-- 18: "a reached instance's wanted rule names an unread register": all of these, instances in file order.
unfoldable pub entry_unread : Chip → ℕ → List ℕ → NodeEntry → List Fault
entry_unread c attention read e = gathered (rule_unread c read) (rule_for attention e.instance)

unfoldable pub reached_unread : Chip → ℕ → List ℕ → Graph → ℕ → List Fault
reached_unread c attention read g root =
    gathered (λ i. cond (reached_from g root i) (gathered (entry_unread c attention read) (at i (node_entries c))) []) (below g.size)

-- What isolation finds in a file for a slot, before a list is looked at: a refusal by 1 to 18, with its number and place; or how many bits are listed, their records, and the steps.
pub data Findings : Type 0 where
  stopped : ℕ → ℕ → Findings
  found : ℕ → List ℕ → ℕ → Findings

unfoldable pub found_from : Chip → ℕ → ℕ → Graph → ℕ → Findings
found_from c slot attention g root = found (length (listing g root)) (records_of c slot attention (listing g root)) (reached_count g root)

-- The first unread register decides.
unfoldable pub all_read : List Fault → Findings → Findings
all_read [] o = o
all_read (f ∷ fs) o = stopped f.number f.place

unfoldable pub from_root : Chip → ℕ → ℕ → List ℕ → List ℕ → List Root → Findings
from_root c slot attention words read [] = stopped 16 0
from_root c slot attention words read (t ∷ ts) =
    cond (readings_fit c words read)
    (all_read
    (reached_unread c attention read (chip_graph c attention words read) (node_position c t.id t.number))
    (found_from c slot attention (chip_graph c attention words read) (node_position c t.id t.number)))
    (stopped 17 0)

unfoldable pub find_in : ℕ → ℕ → List ℕ → List ℕ → Parsed Chip → Findings
find_in slot attention words read (refused n p) = stopped n p
find_in slot attention words read (done c end) =
    cond (known_attention attention) (from_root c slot attention words read (root_for attention c)) (stopped 15 0)

-- By the limits that hold for the file. "Order: .. then 14; then 15 to 19."
unfoldable pub find : Limits → ℕ → List ℕ → ℕ → List ℕ → List ℕ → Findings
find limits slot file attention words read = find_in slot attention words read (verdict limits file)

-- "Success writes the records and no further byte"; 19 where they are more than the list's whole places.
unfoldable pub written : ℕ → List ℕ → ℕ → List ℕ → Outcome
written count records steps list =
    cond (leb count (length list / record_size)) (done_outcome count steps (records ++ drop (count * record_size) list)) (refused_outcome 19 count list)

unfoldable pub in_list : List ℕ → Findings → Outcome
in_list list (stopped n p) = refused_outcome n p list
in_list list (found count records steps) = written count records steps list

-- The answer for one chip: "The single-chip call writes slot 0."
unfoldable pub isolate : Limits → List ℕ → ℕ → List ℕ → List ℕ → List ℕ → Outcome
isolate limits file attention words read list = in_list list (find limits 0 file attention words read)
