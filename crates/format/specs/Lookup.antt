-- Register instances and node instances in file order, and which of them a name means.
use Rattle.std.specs.Prelude.{ℕ, suc, Bool, false, cond, ◌&&◌, ◌||◌, List, [], ◌∷◌, ◌++◌, map, take, drop, eqb}
use Rattle.format.specs.Tree.{RegisterInstance, Register, NodeInstance, Node, Chip}

module _ {A : Type 0} (test : A → Bool) where
  -- Some element passes the test.
  unfoldable pub some : List A → Bool
  some [] = false
  some (x ∷ xs) = test x || some xs

  -- The position of the first element that passes the test; the length where none does.
  unfoldable pub position : List A → ℕ
  position [] = 0
  position (x ∷ xs) = cond (test x) 0 (suc (position xs))

-- The element at a position, if there is one.
unfoldable pub at : {A : Type 0} → ℕ → List A → List A
at i xs = take 1 (drop i xs)

-- The lists that the elements of a list give, one after another.
unfoldable pub gathered : {A B : Type 0} → (A → List B) → List A → List B
gathered f [] = []
gathered f (x ∷ xs) = f x ++ gathered f xs

-- A register instance with what its register says of it.
pub record RegisterEntry : Type 0 where
  pub id : ℕ
  pub type : ℕ
  pub flags : ℕ
  pub instance : RegisterInstance

unfoldable pub entries_of : Register → List RegisterEntry
entries_of r = map (λ i. record { id = r.id; type = r.type; flags = r.flags; instance = i }) r.instances

-- All register instances, in file order.
unfoldable pub register_entries : Chip → List RegisterEntry
register_entries c = gathered entries_of c.registers

-- An entry is the register instance of that ID and number.
unfoldable pub register_named : ℕ → ℕ → RegisterEntry → Bool
register_named id number e = eqb e.id id && eqb e.instance.number number

-- A node instance with what its node says of it.
pub record NodeEntry : Type 0 where
  pub id : ℕ
  pub type : ℕ
  pub instance : NodeInstance

unfoldable pub node_entries_of : Node → List NodeEntry
node_entries_of n = map (λ i. record { id = n.id; type = n.type; instance = i }) n.instances

-- All node instances, in file order.
unfoldable pub node_entries : Chip → List NodeEntry
node_entries c = gathered node_entries_of c.nodes

-- An entry is the node instance of that ID and number.
unfoldable pub node_named : ℕ → ℕ → NodeEntry → Bool
node_named id number e = eqb e.id id && eqb e.instance.number number

-- The file positions of a register instance and of a node instance.
unfoldable pub register_position : Chip → ℕ → ℕ → ℕ
register_position c id number = position (register_named id number) (register_entries c)

unfoldable pub node_position : Chip → ℕ → ℕ → ℕ
node_position c id number = position (node_named id number) (node_entries c)
