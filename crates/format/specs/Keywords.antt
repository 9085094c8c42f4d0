-- The four section keywords.
use Rattle.std.specs.Prelude.{ℕ, List, [], ◌∷◌}

-- "CHIPDATA", "REGS", "NODE" and "ROOT". Source document 001 prints 43484950 beside "REGS"; document 01: "The letters decide: 52 45 47 53."
unfoldable pub chipdata : List ℕ
chipdata = 0x43 ∷ 0x48 ∷ 0x49 ∷ 0x50 ∷ 0x44 ∷ 0x41 ∷ 0x54 ∷ 0x41 ∷ []

unfoldable pub regs : List ℕ
regs = 0x52 ∷ 0x45 ∷ 0x47 ∷ 0x53 ∷ []

unfoldable pub node : List ℕ
node = 0x4e ∷ 0x4f ∷ 0x44 ∷ 0x45 ∷ []

unfoldable pub root : List ℕ
root = 0x52 ∷ 0x4f ∷ 0x4f ∷ 0x54 ∷ []
