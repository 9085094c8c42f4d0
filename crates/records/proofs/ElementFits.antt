-- What records need of each element of a tree, level by level; `Fits` says it number by number.
use Prim.Native.Nat.{ℕ, ◌^◌, ◌<◌}
use lib.ListN.{length}
use Rattle.format.specs.Fields.{address_size}
use Rattle.format.specs.Rules.{Every, ExprFits}
use Rattle.format.specs.Tree.{RegisterInstance, Register, Capture, Rule, Child, NodeInstance, Node, Root}

-- Every number of an element fits its field; a register instance by its register's type.
pub record InstanceFits (type : ℕ) (i : RegisterInstance) : Type 0 where
  pub number : i.number < 256
  pub address : i.address < 256 ^ address_size type

pub record RegisterFits (r : Register) : Type 0 where
  pub id : r.id < 256 ^ 3
  pub type : r.type < 256
  pub flags : r.flags < 256
  pub count : length r.instances < 256
  pub each : Every (InstanceFits r.type) r.instances

pub record CaptureFits (k : Capture) : Type 0 where
  pub id : k.id < 256 ^ 3
  pub number : k.number < 256

pub record RuleFits (r : Rule) : Type 0 where
  pub attention : r.attention < 256
  pub expression : ExprFits r.expression

pub record ChildFits (k : Child) : Type 0 where
  pub bit : k.bit < 256
  pub id : k.id < 256 ^ 2
  pub number : k.number < 256

pub record NodeInstanceFits (i : NodeInstance) : Type 0 where
  pub number : i.number < 256
  pub capture_count : length i.captures < 256
  pub rule_count : length i.rules < 256
  pub child_count : length i.children < 256
  pub captures : Every CaptureFits i.captures
  pub rules : Every RuleFits i.rules
  pub children : Every ChildFits i.children

pub record NodeFits (n : Node) : Type 0 where
  pub id : n.id < 256 ^ 2
  pub type : n.type < 256
  pub count : length n.instances < 256
  pub each : Every NodeInstanceFits n.instances

pub record RootFits (t : Root) : Type 0 where
  pub attention : t.attention < 256
  pub id : t.id < 256 ^ 2
  pub number : t.number < 256
