-- Trees that records can hold: every number fits its field.
use Rattle.std.specs.Prelude.{◌<◌}
use Rattle.format.specs.Rules.{Every, FieldsFit, all_rules, all_children}
use Rattle.format.specs.Tree.{Chip}

-- What `FieldsFit` leaves to the rules on known values: types, attention types and bits are bytes.
pub record Fits (c : Chip) : Type 0 where
  pub fields : FieldsFit c
  pub register_types : Every (λ r. r.type < 256) c.registers
  pub node_types : Every (λ n. n.type < 256) c.nodes
  pub attentions : Every (λ r. r.attention < 256) (all_rules c)
  pub bits : Every (λ k. k.bit < 256) (all_children c)
  pub root_attentions : Every (λ t. t.attention < 256) c.roots
