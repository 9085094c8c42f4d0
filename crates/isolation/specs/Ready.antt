-- An accepted file and its tables, and a wanted attention type with readings that fit.
use Rattle.std.specs.Prelude.{ℕ, Bool, true, ◌&&◌, List, ◌∷◌, ◌++◌, ◌≡◌, leb, length}
use Rattle.limits.specs.declared.LimitSet.{LimitSet}
use Rattle.limits.specs.Limits.{Limits, limits_of}
use Rattle.format.specs.Fields.{known_attention}
use Rattle.format.specs.Lookup.{register_entries, node_position}
use Rattle.format.specs.Parsed.{done}
use Rattle.format.specs.Tree.{Root, Chip}
use Rattle.format.specs.Verdict.{verdict}
use Rattle.tables.specs.Indexed.{IndexOf}
use Rattle.tables.specs.Keys.{register_keys, node_keys}
use Rattle.reader.specs.Examined.{Lengths, room_for}
use Rattle.reader.specs.Columns.{place_column, child_column}
use Rattle.format.specs.Finding.{root_for}
use Rattle.isolation.specs.Activity.{fitting}

-- The tables are those of the chip; other numbers may follow in the table of children.
pub record Tabled (of : LimitSet) (file keys index nodes places children : List ℕ) : Type 0 where
  pub chip : Chip
  pub end : ℕ
  pub accepted : verdict (limits_of of) file ≡ done chip end
  pub keys_are : keys ≡ register_keys chip
  pub indexed : IndexOf index keys
  pub nodes_are : nodes ≡ node_keys chip
  pub places_are : places ≡ place_column chip
  pub rest : List ℕ
  pub children_are : children ≡ child_column chip ++ rest

-- And the type has a root, at this position, and the readings fit: 15 to 17 do not refuse.
pub record Ready (of : LimitSet) (file : List ℕ) (attention : ℕ) (words read keys index nodes places children : List ℕ) (root : ℕ) : Type 0 where
  pub tabled : Tabled of file keys index nodes places children
  pub known : known_attention attention ≡ true
  pub first : Root
  pub others : List Root
  pub rooted : root_for attention tabled.chip ≡ first ∷ others
  pub fits : fitting (length (register_entries tabled.chip)) words read ≡ true
  pub root_is : root ≡ node_position tabled.chip first.id first.number

-- Room

-- Two tables have a place for each of n node instances.
unfoldable pub both_fit : ℕ → ℕ → ℕ → Bool
both_fit n active unread = leb n active && leb n unread

-- So have all tables of an answer, and one for each of m register instances.
unfoldable pub tables_fit : ℕ → ℕ → ℕ → ℕ → ℕ → ℕ → ℕ → Bool
tables_fit m n keys nodes places active unread = leb m keys && (leb n nodes && (leb n places && both_fit n active unread))

-- The tables of the reader have room for a file, and the one for unread registers is as long as that for names of node instances.
unfoldable pub room_in : Limits → Lengths → ℕ → List ℕ → Bool
room_in limits t unread file = leb t.names unread && room_for limits t file
