-- The tables of a file: three columns, with a row for each register instance or node instance in file order.
use Rattle.std.specs.Prelude.{ℕ, suc, ◌+◌, ◌*◌, ◌≤◌, true, List, [], ◌∷◌, ◌≡◌, length, set}
use Rattle.limits.specs.Limits.{library_limits}
use Rattle.format.specs.Lookup.{RegisterEntry, NodeEntry}
use Rattle.format.specs.RegisterLayout.{RegisterHead}
use Rattle.format.specs.NodeLayout.{node_instance_at}
use Rattle.format.specs.Parsed.{done}
use Rattle.format.specs.Tree.{Child, NodeInstance}
use Rattle.tables.specs.Kinds.{kind_of, wanted_kind}
use Rattle.tables.specs.Tables.{key_of}
use Rattle.index.specs.declared.Head as declared
use Rattle.index.specs.declared.Instance.{Instance}

-- What is kept of an instance.
pub record Row : Type 0 where
  pub key : ℕ
  pub kind : ℕ
  pub place : ℕ

-- The three columns.
pub record Rows : Type 0 where
  pub keys : List ℕ
  pub kinds : List ℕ
  pub places : List ℕ

unfoldable pub put_row : Rows → ℕ → Row → Rows
put_row t k r = record { keys = set t.keys k r.key; kinds = set t.kinds k r.kind; places = set t.places k r.place }

-- The columns after some rows were written from a place on.
unfoldable pub filled : Rows → ℕ → List Row → Rows
filled t k [] = t
filled t k (r ∷ rs) = filled (put_row t k r) (suc k) rs

-- Two columns, without places.
abbrev pub pair : List ℕ → List ℕ → Rows
pair keys kinds = record { keys = keys; kinds = kinds; places = [] }

-- Where two tables differ at all it is at places from one on, up to another: rows that are written over these places leave no difference.
pub record Covered (t u : Rows) (from to : ℕ) : Type 0 where
  pub over : (k : ℕ) (rows : List Row) → k ≤ from → to ≤ k + length rows → filled u k rows ≡ filled t k rows

-- A row: the name of an instance, its kind, and a place.
unfoldable pub row_of : ℕ → ℕ → ℕ → ℕ → Row
row_of id kind number place = record { key = key_of id number; kind = kind; place = place }

-- The row of a register instance has the place of its address.
unfoldable pub register_row : RegisterEntry → Row
register_row e = row_of e.id (kind_of e.type e.flags) e.instance.number e.instance.place

-- The row of a node instance has the kind of the registers that its rules may name, and the place of the number byte.
unfoldable pub node_row : NodeEntry → Row
node_row e = row_of e.id (wanted_kind e.type) e.instance.number e.instance.place

-- What is kept of the head of a register, and of an instance.
abbrev pub head_of : RegisterHead → ℕ → declared.Head
head_of h next = record { id = h.id; kind = h.type; count = h.count; next = next }

abbrev pub instance_of : ℕ → ℕ → ℕ → Instance
instance_of n p next = record { number = n; place = p; next = next }

-- A node instance is read again at its place, by itself: no limit is near.
pub record ReadAgain (s : List ℕ) (e : NodeEntry) : Type 0 where
  pub next : ℕ
  pub read : node_instance_at library_limits.node_instances s true 0 [] e.instance.place ≡ done e.instance next

-- The place and the kind in the row of a node instance.
abbrev pub entry_place : NodeEntry → ℕ
entry_place e = e.instance.place

abbrev pub entry_wanted : NodeEntry → ℕ
entry_wanted e = wanted_kind e.type

-- The place of the first of some children; 0 where there is none.
unfoldable pub first_place : List Child → ℕ
first_place [] = 0
first_place (k ∷ ks) = k.place

-- What is kept of the children of a node instance: the place of the first, and how many there are.
unfoldable pub children_of : NodeInstance → ℕ
children_of i = first_place i.children * 256 + length i.children

abbrev pub entry_children : NodeEntry → ℕ
entry_children e = children_of e.instance
