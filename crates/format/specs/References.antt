-- Refusals 12 and 13: names that mean nothing, and registers that a capture or a rule may not name.
use Rattle.std.specs.Prelude.{ℕ, Bool, cond, ◌&&◌, List, [], ◌∷◌, ◌++◌, eqb}
use Rattle.format.specs.Fields.{readable}
use Rattle.format.specs.Lookup.{some, gathered, RegisterEntry, register_entries, register_named, NodeEntry, node_entries, node_named}
use Rattle.format.specs.Tree.{Expr, Exprs, reading, constant, all, any, inverse, left, right, none, more, Capture, Rule, Child, NodeInstance, Root, Chip}

-- A register instance that an expression names, and the place of that expression's type byte.
pub record Named : Type 0 where
  pub place : ℕ
  pub id : ℕ
  pub number : ℕ

-- All that an expression names, in byte order.
unfoldable mutual
  pub named_by : Expr → List Named
  named_by (reading p i n) = record { place = p; id = i; number = n } ∷ []
  named_by (constant v) = []
  named_by (all es) = named_by_all es
  named_by (any es) = named_by_all es
  named_by (inverse e) = named_by e
  named_by (left k e) = named_by e
  named_by (right k e) = named_by e

  pub named_by_all : Exprs → List Named
  named_by_all none = []
  named_by_all (more e es) = named_by e ++ named_by_all es

-- A refusal: number and place.
pub record Fault : Type 0 where
  pub number : ℕ
  pub place : ℕ

-- None where the test passes, otherwise this one.
unfoldable pub unless : Bool → ℕ → ℕ → List Fault
unless ok n p = cond ok [] (record { number = n; place = p } ∷ [])

-- "A register that a rule names must have the node's type (001) and be readable (house)."
unfoldable pub fits : ℕ → RegisterEntry → Bool
fits type e = eqb e.type type && readable e.flags

-- A node instance has a rule for the attention type.
unfoldable pub has_rule : ℕ → NodeInstance → Bool
has_rule attention i = some (λ r. eqb r.attention attention) i.rules

module _ (c : Chip) where
  -- The register instance, or the node instance, is in the file.
  unfoldable pub has_register : ℕ → ℕ → Bool
  has_register id number = some (register_named id number) (register_entries c)

  unfoldable pub has_node : ℕ → ℕ → Bool
  has_node id number = some (node_named id number) (node_entries c)

  -- The register instance is in the file, and is as asked.
  unfoldable pub has_register_that : (RegisterEntry → Bool) → ℕ → ℕ → Bool
  has_register_that asked id number = some (λ e. register_named id number e && asked e) (register_entries c)

  -- A register instance that is named at a place: 12 where it is absent, then 13 where it is not as asked.
  unfoldable pub register_faults : (RegisterEntry → Bool) → ℕ → ℕ → ℕ → List Fault
  register_faults asked id number place =
      unless (has_register id number) 12 place ++ unless (has_register_that asked id number) 13 place

  -- Document 02 (i): "a capture whose register lacks the readable flag is refusal 13, place the capture's first byte. At one capture 12 still comes before 13."
  unfoldable pub capture_faults : Capture → List Fault
  capture_faults k = register_faults (λ e. readable e.flags) k.id k.number k.place

  -- A register that the rule of a node of this type names: 12 where it is absent, then 13 where it does not fit.
  unfoldable pub named_faults : ℕ → Named → List Fault
  named_faults type n = register_faults (fits type) n.id n.number n.place

  unfoldable pub rule_faults : ℕ → Rule → List Fault
  rule_faults type r = gathered (named_faults type) (named_by r.expression)

  unfoldable pub child_faults : Child → List Fault
  child_faults k = unless (has_node k.id k.number) 12 k.place

  unfoldable pub instance_faults : NodeEntry → List Fault
  instance_faults e =
      gathered capture_faults e.instance.captures
      ++ (gathered (rule_faults e.type) e.instance.rules ++ gathered child_faults e.instance.children)

  -- "A root's node instance must have a rule for the root's attention type": 12 where the instance or the rule is absent.
  unfoldable pub root_faults : Root → List Fault
  root_faults r =
      unless (some (λ e. node_named r.id r.number e && has_rule r.attention e.instance) (node_entries c)) 12 r.place

  -- All faults of 12 and 13, in byte order.
  unfoldable pub reference_faults : List Fault
  reference_faults = gathered instance_faults (node_entries c) ++ gathered root_faults c.roots
