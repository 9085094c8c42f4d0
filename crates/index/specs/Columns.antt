-- The columns of a chip's tables beside the names, in file order.
use Rattle.std.specs.Prelude.{ℕ, List, map, ◌≡◌}
use Rattle.format.specs.Lookup.{register_entries, node_entries}
use Rattle.format.specs.Tree.{Chip}
use Rattle.tables.specs.Keys.{register_keys, node_keys}
use Rattle.tables.specs.Kinds.{kind_of}
use Rattle.index.specs.Rows.{entry_place, entry_wanted}

-- The kinds of the register instances.
abbrev pub register_kinds : Chip → List ℕ
register_kinds c = map (λ e. kind_of e.type e.flags) (register_entries c)

-- The kinds that the rules of the node instances may name, and the places of these.
abbrev pub node_wanted : Chip → List ℕ
node_wanted c = map entry_wanted (node_entries c)

abbrev pub node_places : Chip → List ℕ
node_places c = map entry_place (node_entries c)

-- The tables are those of the chip.
pub record TablesOf (c : Chip) (keys kinds nodes wanted places : List ℕ) : Type 0 where
  pub keys_are : keys ≡ register_keys c
  pub kinds_are : kinds ≡ register_kinds c
  pub nodes_are : nodes ≡ node_keys c
  pub wanted_are : wanted ≡ node_wanted c
  pub places_are : places ≡ node_places c
