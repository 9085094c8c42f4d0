-- What is kept of the children of a chip's node instances, and the table of children that comes of it.
use Rattle.std.specs.Prelude.{ℕ, ◌≤◌, ◌<◌, true, List, [], map, ◌≡◌, length, take}
use Rattle.format.specs.Lookup.{gathered, node_entries}
use Rattle.format.specs.Tree.{Chip}
use Rattle.tables.specs.Keys.{node_keys}
use Rattle.tables.specs.Tables.{written}
use Rattle.index.specs.Rows.{entry_children}
use Rattle.links.specs.Links.{child_row}
use Rattle.node_pass.specs.Passed.{entry_names_in}
use Rattle.reader.specs.declared.Layout.{Layout}

-- A column that is not empty holds what is kept of the children of each node instance, and every register fits that captures and rules name.
pub record EntriesOf (c : Chip) (keys kinds entries : List ℕ) : Type 0 where
  pub entries_are : 0 < length entries → entries ≡ map entry_children (node_entries c)
  pub fit : 0 < length entries → gathered (entry_names_in keys kinds) (node_entries c) ≡ []

-- The same of tables of which the first places are a layout's, where it says that every register fits and the column has a place for each node instance.
pub record EntriesIn (c : Chip) (l : Layout) (keys kinds entries : List ℕ) : Type 0 where
  pub entries_are : l.fits ≡ true → l.node_instances ≤ length entries → take l.node_instances entries ≡ map entry_children (node_entries c)
  pub fit : l.fits ≡ true → gathered (entry_names_in (take l.register_instances keys) (take l.register_instances kinds)) (node_entries c) ≡ []

-- The children of each node instance are written from the front on, to a table of the length of the one at first.
pub record Linked (c : Chip) (t u : List ℕ) : Type 0 where
  pub base : List ℕ
  pub sized : length base ≡ length t
  pub children_are : u ≡ written base 0 (gathered (λ e. child_row (node_keys c) e.instance) (node_entries c))
