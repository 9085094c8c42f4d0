-- The root of an attention type, by the keys of the node instances.
use Rattle.std.specs.Prelude.{ℕ, cond, List, [], ◌∷◌, eqb}
use Rattle.format.specs.Tree.{Root}
use Rattle.tables.specs.Faults.{position_in}
use Rattle.references.specs.declared.roots.RootEntry.{RootEntry}

-- The position of the node instance of the first root for an attention type; 65,535 where there is none.
unfoldable pub root_position : List ℕ → ℕ → List Root → ℕ
root_position nodes attention [] = 0xFFFF
root_position nodes attention (t ∷ ts) = cond (eqb t.attention attention) (position_in nodes t.id t.number) (root_position nodes attention ts)

-- What is kept of a root, with the place after it.
abbrev pub root_of : Root → ℕ → RootEntry
root_of t next = record { attention = t.attention; id = t.id; number = t.number; next = next }
