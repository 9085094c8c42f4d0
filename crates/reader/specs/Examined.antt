-- The tables that a caller lends for a file: how long they are, what a file needs of them, and what they hold of an accepted file.
use Rattle.std.specs.Prelude.{ℕ, ◌*◌, ◌≤◌, Bool, true, ◌&&◌, List, ◌++◌, ◌≡◌, leb, length, take}
use Rattle.limits.specs.declared.LimitSet.{LimitSet}
use Rattle.limits.specs.Limits.{Limits, limits_of}
use Rattle.format.specs.FileLayout.{roots_at}
use Rattle.format.specs.Lookup.{register_entries, node_entries}
use Rattle.format.specs.Parsed.{Parsed, done, refused}
use Rattle.format.specs.Tree.{Chip}
use Rattle.format.specs.Verdict.{verdict}
use Rattle.tables.specs.Indexed.{IndexOf}
use Rattle.tables.specs.Keys.{register_keys, node_keys}
use Rattle.reader.specs.declared.Layout.{Layout}
use Rattle.reader.specs.Columns.{place_column, child_column}
use Rattle.reader.specs.Layout.{Summary, laid_out, whole_at}

-- The lengths of the lent tables: names and kinds of the register instances; names, kinds and places of the node instances, and their children. The two indexes and the column of child entries may have any length.
pub record Lengths : Type 0 where
  pub keys : ℕ
  pub kinds : ℕ
  pub names : ℕ
  pub wanted : ℕ
  pub places : ℕ
  pub child : ℕ

abbrev pub lengths_of : List ℕ → List ℕ → List ℕ → List ℕ → List ℕ → List ℕ → Lengths
lengths_of keys kinds names wanted places child =
    record { keys = length keys; kinds = length kinds; names = length names; wanted = length wanted; places = length places; child = length child }

-- Tables with a place for each of m register instances and n node instances, and 64 for the children of each of these.
unfoldable pub room_of : Lengths → ℕ → ℕ → Bool
room_of t m n = leb m t.keys && (leb m t.kinds && (leb n t.names && (leb n t.wanted && (leb n t.places && leb (n * 64) t.child))))

-- The tables have room for the instances that a layout counts. A layout that is refused needs none.
unfoldable pub room_for_layout : Lengths → Parsed Summary → Bool
room_for_layout t (done l end) = room_of t l.register_instances l.node_instances
room_for_layout t (refused n p) = true

-- The tables have room for a file.
unfoldable pub room_for : Limits → Lengths → List ℕ → Bool
room_for limits t s = room_for_layout t (whole_at limits s)

-- The tables of an accepted file: the names of its register instances, with an index over them; the names and places of its node instances; and the children of these. What stands in the tables behind these places is free.
pub record Examined (of : LimitSet) (s : List ℕ) (l : Layout) (keys index names places child : List ℕ) : Type 0 where
  pub chip : Chip
  pub end : ℕ
  pub accepted : verdict (limits_of of) s ≡ done chip end
  pub whole : done (laid_out l) l.end ≡ whole_at (limits_of of) s
  pub model : l.model ≡ chip.model
  pub registers : l.register_instances ≡ length (register_entries chip)
  pub nodes : l.node_instances ≡ length (node_entries chip)
  pub roots : roots_at s true l.roots_at ≡ done chip.roots end
  pub registers-in : l.register_instances ≤ length keys
  pub nodes-in : l.node_instances ≤ length names
  pub places_in : l.node_instances ≤ length places
  pub keys_are : take l.register_instances keys ≡ register_keys chip
  pub indexed : IndexOf index (take l.register_instances keys)
  pub names_are : take l.node_instances names ≡ node_keys chip
  pub places_are : take l.node_instances places ≡ place_column chip
  pub rest : List ℕ
  pub children_are : child ≡ child_column chip ++ rest
