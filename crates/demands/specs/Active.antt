-- Active bits and child entries, in words: what the graph of a chip says of a node instance at a file position.
use Rattle.std.specs.Prelude.{ℕ, true, List, [], ◌∷◌, ◌≡◌}
use Rattle.numbers.specs.Bits.{bit_of}
use Rattle.limits.specs.Limits.{levels}
use Rattle.format.specs.Lookup.{at, NodeEntry, node_entries, node_position}
use Rattle.format.specs.Meaning.{value_within}
use Rattle.format.specs.References.{Named, named_by}
use Rattle.format.specs.Tree.{Rule, Child, Chip}
use Rattle.isolation.specs.Readings.{word_for}
use Rattle.demands.specs.Rows.{In}
use Rattle.demands.specs.Demand3.{read_byte, WantedRule}

-- "A node instance's active bits are the ones of its rule for the wanted attention type. It has none if it has no such rule, or if that rule names an unread register."
pub record ActiveBit (c : Chip) (attention : ℕ) (words read : List ℕ) (i b : ℕ) : Type 0 where
  pub rule : Rule
  pub own : WantedRule c attention i rule
  pub valued : (n : Named) → In n (named_by rule.expression) → read_byte c read n ≡ 1
  pub one : bit_of 64 (value_within levels 64 (word_for c words) rule.expression) b ≡ true

-- A bit "with a child entry": one of the node instance's child entries is for the bit, and names the node instance at j.
pub record ChildOf (c : Chip) (i b j : ℕ) : Type 0 where
  pub entry : NodeEntry
  pub stands : at i (node_entries c) ≡ entry ∷ []
  pub child : Child
  pub own : In child entry.instance.children
  pub wanted : child.bit ≡ b
  pub means : j ≡ node_position c child.id child.number
