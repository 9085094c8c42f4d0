-- The file as the code writes it: how many bytes it has, the pieces of an element, and bytes that are written from the end.
use Rattle.std.specs.Prelude.{ℕ, ◌+◌, ◌-◌, ◌≤◌, ◌<◌, List, [], ◌∷◌, ◌++◌, ◌≡◌, length, take, drop}
use Rattle.numbers.specs.BigEndian.{bytes_of}
use Rattle.format.specs.Fields.{address_size}
use Rattle.records.specs.declared.Record.{Record}
use Rattle.records.specs.declared.Element.{Element}
use Rattle.records.specs.declared.Element.TheVariants.{Register, RegisterInstance, Node, NodeInstance, Capture, Rule, Reading, Constant, All, Any, Inverse, Left, Right, Child, Root, Unknown}
use Rattle.records.specs.Record.{records_from, records_in, at_front}
use Rattle.records.specs.Grammar.{element}
use Rattle.records.specs.Sizes.{own_size}
use Rattle.packing.specs.declared.Counts.{Counts}
use Rattle.packing.specs.declared.Parts.{Parts}
use Rattle.packing.specs.declared.Nearest.{Nearest}
use Rattle.packing.specs.declared.Written.{Written}
use Rattle.packing.specs.declared.Section.{Section}
use Rattle.format.specs.Encoding.{encode_start}
use Rattle.packing.specs.Packing.{packed_of, type_with, pack, none, roots_section, nodes_section, registers_section, of_registers, of_roots, count_by, file_of}

-- An output with the file at its front, where there is room for it; otherwise as it was.
unfoldable pub packed_in : ℕ → List ℕ → List ℕ → List ℕ
packed_in model s out = at_front (file_of model (records_in s)) out

-- The type of the last register of some records, behind one of that type.
unfoldable pub type_after : ℕ → List Record → ℕ
type_after t [] = t
type_after t (r ∷ rs) = type_after (type_with t r) rs

-- How many bytes the elements of some records are, behind a register of that type.
unfoldable pub sizes : ℕ → List Record → ℕ
sizes t [] = 0
sizes t (r ∷ rs) = own_size (address_size t) (element r) + sizes (type_with t r) rs

-- How many bytes a file has: keywords, model/level, version and the three counts, and the elements of each section. `FileLaws.size_of`: it is the file's length.
unfoldable pub file_size : List Record → ℕ
file_size rs =
    let first = count_by of_registers rs in
    let last = length rs - count_by of_roots rs in
    31 + (sizes 0 (take first rs) + (sizes 0 (take (last - first) (drop first rs)) + sizes 0 (drop last rs)))

-- The records of the three sections: those of registers, those of roots, and all others between them.
pub record Split (rs : List Record) (p : Parts) : Type 0 where
  pub registers : records_in p.registers.now ≡ take (count_by of_registers rs) rs
  pub others : records_in p.others.now ≡ take (length rs - count_by of_roots rs - count_by of_registers rs) (drop (count_by of_registers rs) rs)
  pub roots : records_in p.roots.now ≡ drop (length rs - count_by of_roots rs) rs

-- A section by its records, with nothing behind it, and how many bytes its keyword and its count have.
abbrev pub section_of : Section → List Record → List ℕ
section_of Section.Registers rs = registers_section rs []
section_of Section.Nodes rs = nodes_section rs []
section_of Section.Roots rs = roots_section rs

abbrev pub head_size : Section → ℕ
head_size Section.Registers = 7
head_size Section.Nodes = 6
head_size Section.Roots = 5

-- The file by the records of its sections, and how many bytes it has.
abbrev pub parts_size : Parts → ℕ
parts_size p = 31 + (sizes 0 (records_in p.registers.now) + (sizes 0 (records_in p.others.now) + sizes 0 (records_in p.roots.now)))

abbrev pub parts_file : ℕ → Parts → List ℕ
parts_file model p =
    encode_start model
    ++ (section_of Section.Registers (records_in p.registers.now)
    ++ (section_of Section.Nodes (records_in p.others.now) ++ section_of Section.Roots (records_in p.roots.now)))

-- An element as at most four numbers, each behind how many bytes it takes; those that it does not have are first, in no byte.
abbrev pub no_piece : ℕ × ℕ
no_piece = (0, 0)

abbrev pub pieces_of : ℕ → Counts → Element → Record → List (ℕ × ℕ)
pieces_of size c Register r = (3, r.id) ∷ (1, r.form) ∷ (1, r.amount) ∷ (1, c.register_instances) ∷ []
pieces_of size c RegisterInstance r = no_piece ∷ no_piece ∷ (1, r.number) ∷ (size, r.value) ∷ []
pieces_of size c Node r = no_piece ∷ (2, r.id) ∷ (1, r.form) ∷ (1, c.node_instances) ∷ []
pieces_of size c NodeInstance r = (1, r.number) ∷ (1, c.captures) ∷ (1, c.rules) ∷ (1, c.children) ∷ []
pieces_of size c Capture r = no_piece ∷ no_piece ∷ (3, r.id) ∷ (1, r.number) ∷ []
pieces_of size c Rule r = no_piece ∷ no_piece ∷ no_piece ∷ (1, r.form) ∷ []
pieces_of size c Reading r = no_piece ∷ (1, r.form) ∷ (3, r.id) ∷ (1, r.number) ∷ []
pieces_of size c Constant r = no_piece ∷ no_piece ∷ (1, r.form) ∷ (8, r.value) ∷ []
pieces_of size c All r = no_piece ∷ no_piece ∷ (1, r.form) ∷ (1, r.amount) ∷ []
pieces_of size c Any r = no_piece ∷ no_piece ∷ (1, r.form) ∷ (1, r.amount) ∷ []
pieces_of size c Inverse r = no_piece ∷ no_piece ∷ no_piece ∷ (1, r.form) ∷ []
pieces_of size c Left r = no_piece ∷ no_piece ∷ (1, r.form) ∷ (1, r.amount) ∷ []
pieces_of size c Right r = no_piece ∷ no_piece ∷ (1, r.form) ∷ (1, r.amount) ∷ []
pieces_of size c Child r = no_piece ∷ (1, r.amount) ∷ (2, r.id) ∷ (1, r.number) ∷ []
pieces_of size c Root r = no_piece ∷ (1, r.form) ∷ (2, r.id) ∷ (1, r.number) ∷ []
pieces_of size c Unknown r = no_piece ∷ no_piece ∷ no_piece ∷ no_piece ∷ []

-- How many bytes such numbers take, and these bytes.
abbrev pub pieces_size : List (ℕ × ℕ) → ℕ
pieces_size [] = 0
pieces_size (p ∷ ps) = p.0 + pieces_size ps

unfoldable pub pieces_bytes : List (ℕ × ℕ) → List ℕ
pieces_bytes [] = []
pieces_bytes (p ∷ ps) = bytes_of p.0 p.1 ++ pieces_bytes ps

-- Bytes that were written so that they end before the place `at`: they start at `to`, and the rest is as it was.
pub record Back (old new : List ℕ) (at to : ℕ) (bs : List ℕ) : Type 0 where
  pub content : new ≡ take to old ++ (bs ++ drop at old)
  pub starts : at ≡ to + length bs
  pub within : at ≤ length old

-- No count is above m.
pub record Few (m : ℕ) (c : Counts) : Type 0 where
  pub register_instances : c.register_instances ≤ m
  pub registers : c.registers ≤ m
  pub captures : c.captures ≤ m
  pub rules : c.rules ≤ m
  pub children : c.children ≤ m
  pub node_instances : c.node_instances ≤ m
  pub nodes : c.nodes ≤ m
  pub roots : c.roots ≤ m

-- The type of the last register among the first j records of a part is known for each j from one on, below another.
pub record Known (s : List ℕ) (start end : ℕ) (n : Nearest) : Type 0 where
  pub form : (j : ℕ) → n.since ≤ j → j < end → type_after 0 (records_from s j start) ≡ n.form

-- It is known of the first j records.
pub record Near (s : List ℕ) (start j : ℕ) (n : Nearest) : Type 0 where
  pub known : Known s start (j + 1) n
  pub here : n.since ≤ j

-- The elements of a part were written, and their counts are those of the elements whose parents stand before them.
pub record PartBack (rs : List Record) (old new : List ℕ) (at : ℕ) (w : Written) : Type 0 where
  pub bytes : Back old new at w.at (pack 0 rs (packed_of none [])).bytes
  pub counts : w.counts ≡ (pack 0 rs (packed_of none [])).counts
