-- The names of a chip's register instances and of its node instances, as tables keep them, in file order.
use Rattle.std.specs.Prelude.{ℕ, List, map}
use Rattle.format.specs.Lookup.{register_entries, node_entries}
use Rattle.format.specs.Tree.{Chip}
use Rattle.tables.specs.Tables.{key_of}

abbrev pub register_keys : Chip → List ℕ
register_keys c = map (λ e. key_of e.id e.instance.number) (register_entries c)

abbrev pub node_keys : Chip → List ℕ
node_keys c = map (λ e. key_of e.id e.instance.number) (node_entries c)
