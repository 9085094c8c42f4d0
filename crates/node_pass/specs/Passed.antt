-- What one pass over the nodes section gives: what was read, the rows that were written, and that every register fits where the pass says so.
use Rattle.std.specs.Prelude.{ℕ, zero, suc, ◌+◌, ◌*◌, ◌≤◌, ◌<◌, true, List, [], map, ◌≡◌, length}
use Rattle.format.specs.Lookup.{gathered, node_entries_of, NodeEntry}
use Rattle.format.specs.NodeLayout.{capture_at, rule_at, node_instance_at, node_total, node_head_at, node_at, nodes_at}
use Rattle.format.specs.Parsed.{done, row_at}
use Rattle.format.specs.References.{Fault}
use Rattle.format.specs.Tree.{Capture, Rule, NodeInstance, Node}
use Rattle.tables.specs.Faults.{capture_faults_in, rule_faults_in, register_names_in}
use Rattle.tables.specs.Kinds.{wanted_kind}
use Rattle.tables.specs.Tables.{written}
use Rattle.fields.specs.Seen.{Below}
use Rattle.nodes.specs.Nodes.{node_number}
use Rattle.index.specs.Rows.{Rows, filled, row_of, node_row, children_of, entry_children}
use Rattle.node_pass.specs.declared.Pass.{Pass}
use Rattle.node_pass.specs.declared.InstancePass.{InstancePass}
use Rattle.node_pass.specs.declared.HeadPass.{HeadPass}
use Rattle.node_pass.specs.declared.NodesPass.{NodesPass}
use Rattle.node_pass.specs.declared.SectionPass.{SectionPass}

-- What is kept of so many children, the first of which stands at a place.
unfoldable pub packed : ℕ → ℕ → ℕ
packed at zero = 0
packed at (suc n) = at * 256 + suc n

-- What is wrong with the registers that a node instance of the file names.
unfoldable pub entry_names_in : List ℕ → List ℕ → NodeEntry → List Fault
entry_names_in keys kinds e = register_names_in keys kinds (wanted_kind e.type) e.instance

-- The captures and rules of a node instance.
pub record NamesPassed (s keys kinds : List ℕ) (kind captures rules at : ℕ) (p : Pass) : Type 0 where
  pub captured : List Capture
  pub middle : ℕ
  pub ruled : List Rule
  pub read_captures : row_at (capture_at s) captures [] at ≡ done captured middle
  pub read_rules : row_at (rule_at s true) rules [] middle ≡ done ruled p.next
  pub fit : p.fits ≡ true → (gathered (capture_faults_in keys kinds) captured ≡ []) × (gathered (rule_faults_in keys kinds kind) ruled ≡ [])

-- A node instance after others of its node, the numbers of which are below a bound, in a file that may have it.
pub record InstancePassed (s keys kinds : List ℕ) (kind bound at : ℕ) (p : InstancePass) : Type 0 where
  pub instance : NodeInstance
  pub rises : bound ≤ p.number
  pub read : (limit total : ℕ) (before : List NodeInstance) → Below bound (map node_number before) → total + length before < limit → node_instance_at limit s true total before at ≡ done instance p.next
  pub numbered : p.number ≡ instance.number
  pub placed : at ≡ instance.place
  pub children_are : p.children ≡ children_of instance
  pub fit : p.fits ≡ true → register_names_in keys kinds kind instance ≡ []

-- The instances of a node: their rows are written from row `total` on.
pub record InstancesPassed (limit : ℕ) (s keys kinds : List ℕ) (id kind count total at : ℕ) (t : Rows) (c : List ℕ) (u : Rows) (d : List ℕ) (p : Pass) : Type 0 where
  pub instances : List NodeInstance
  pub read : row_at (node_instance_at limit s true total) count [] at ≡ done instances p.next
  pub rows : u ≡ filled t total (map (λ i. row_of id kind i.number i.place) instances)
  pub children_are : d ≡ written c total (map children_of instances)
  pub fit : p.fits ≡ true → gathered (register_names_in keys kinds kind) instances ≡ []

-- What a node starts with, after other nodes, the IDs of which are below a bound.
pub record HeadPassed (s : List ℕ) (bound at : ℕ) (h : HeadPass) : Type 0 where
  pub rises : bound ≤ h.id
  pub small : h.id < 65536
  pub within : at + 4 ≤ length s
  pub read : (ids : List ℕ) → Below bound ids → node_head_at s true ids at ≡ done (record { id = h.id; type = h.kind; count = h.count }) (at + 4)

-- Some nodes: the rows of their instances are written from the first row on.
pub record NodesPassed (limit : ℕ) (s keys kinds : List ℕ) (n at : ℕ) (t : Rows) (c : List ℕ) (u : Rows) (d : List ℕ) (p : NodesPass) : Type 0 where
  pub nodes : List Node
  pub counted : p.total ≡ node_total nodes
  pub read : row_at (node_at limit s true) n [] at ≡ done nodes p.next
  pub rows : u ≡ filled t 0 (map node_row (gathered node_entries_of nodes))
  pub children_are : d ≡ written c 0 (map entry_children (gathered node_entries_of nodes))
  pub fit : p.fits ≡ true → gathered (entry_names_in keys kinds) (gathered node_entries_of nodes) ≡ []

-- Tables and a column of the lengths of others.
pub record Base (t : Rows) (c : List ℕ) : Type 0 where
  pub rows : Rows
  pub column : List ℕ
  pub keys_sized : length rows.keys ≡ length t.keys
  pub kinds_sized : length rows.kinds ≡ length t.kinds
  pub places_sized : length rows.places ≡ length t.places
  pub column_sized : length column ≡ length c

-- Some nodes, the rows of whose instances are written to tables of the lengths of those at first.
pub record RowsPassed (limit : ℕ) (s keys kinds : List ℕ) (n at : ℕ) (t : Rows) (c : List ℕ) (u : Rows) (d : List ℕ) (p : NodesPass) : Type 0 where
  pub base : Base t c
  pub passed : NodesPassed limit s keys kinds n at base.rows base.column u d p

-- The nodes section: the rows are written to tables of the lengths of those at first.
pub record SectionPassed (limit : ℕ) (s keys kinds : List ℕ) (at : ℕ) (t : Rows) (c : List ℕ) (u : Rows) (d : List ℕ) (p : SectionPass) : Type 0 where
  pub base : Base t c
  pub nodes : List Node
  pub listed : p.nodes ≡ length nodes
  pub counted : p.total ≡ node_total nodes
  pub read : nodes_at limit s true at ≡ done nodes p.next
  pub rows : u ≡ filled base.rows 0 (map node_row (gathered node_entries_of nodes))
  pub children_are : d ≡ written base.column 0 (map entry_children (gathered node_entries_of nodes))
  pub fit : p.fits ≡ true → gathered (entry_names_in keys kinds) (gathered node_entries_of nodes) ≡ []
