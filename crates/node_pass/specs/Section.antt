-- The nodes section as it is kept: the rows of its node instances; and where the answer says that every register fits that captures and rules name, the place and the number of the children of each.
use Rattle.std.specs.Prelude.{ℕ, ◌≤◌, ◌<◌, Bool, true, List, [], map, ◌≡◌, length, take}
use Rattle.format.specs.Lookup.{gathered, node_entries_of, NodeEntry}
use Rattle.format.specs.Parsed.{Parsed, done}
use Rattle.format.specs.Tree.{Node}
use Rattle.fields.specs.Views.{Section, refused_by}
use Rattle.tables.specs.Indexed.{IndexOf}
use Rattle.tables.specs.Tables.{written}
use Rattle.index.specs.Rows.{Rows, filled, node_row, entry_children}
use Rattle.node_pass.specs.declared.section.NodesRead.{NodesRead}
use Rattle.node_pass.specs.Passed.{entry_names_in}

abbrev pub nodes_parsed : NodesRead → Parsed Section
nodes_parsed (NodesRead.Section p) = done (record { elements = p.nodes; instances = p.total }) p.next
nodes_parsed (NodesRead.Refused r) = refused_by r

-- Every register fits that some node instances name, by the first m names and kinds, and what is kept of the children of each stands in a column of the length of the one at first.
pub record NamesKept (m : ℕ) (keys kinds : List ℕ) (c d : List ℕ) (es : List NodeEntry) : Type 0 where
  pub keys_in : m ≤ length keys
  pub kinds_in : m ≤ length kinds
  pub column : List ℕ
  pub column_sized : length column ≡ length c
  pub entries_are : d ≡ written column 0 (map entry_children es)
  pub fit : gathered (entry_names_in (take m keys) (take m kinds)) es ≡ []

-- The rows of some nodes are written from the front on, to tables of the lengths of those at first; and where `fits` is true their names are kept.
pub record NodesKept (m : ℕ) (keys kinds : List ℕ) (t : Rows) (c : List ℕ) (u : Rows) (d : List ℕ) (fits : Bool) (ns : List Node) : Type 0 where
  pub base : Rows
  pub keys_sized : length base.keys ≡ length t.keys
  pub kinds_sized : length base.kinds ≡ length t.kinds
  pub places_sized : length base.places ≡ length t.places
  pub rows : u ≡ filled base 0 (map node_row (gathered node_entries_of ns))
  pub names : fits ≡ true → NamesKept m keys kinds c d (gathered node_entries_of ns)

-- Where the tables hold m names and kinds, and m is not too many, there is an index over these names.
pub record IndexKept (m : ℕ) (keys kinds index : List ℕ) : Type 0 where
  pub indexed : m < 65536 → m ≤ length keys → m ≤ length kinds → IndexOf index (take m keys)
