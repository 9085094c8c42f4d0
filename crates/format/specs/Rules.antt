-- The rules of document 01, with what document 02 (i) amends, as propositions on trees, under the numbers of its table. (2, 3, 4 and 11 say that the file is an encoding.)
use Rattle.std.specs.Prelude.{ℕ, ◌^◌, ◌≤◌, ◌<◌, max, suc, true, false, ◌&&◌, List, [], ◌∷◌, map, ◌≡◌, length}
use Rattle.limits.specs.Limits.{Limits, levels}
use Rattle.format.specs.Fields.{known_type, address_size, known_flags, readable, known_attention, member}
use Rattle.format.specs.Lookup.{some, gathered, register_entries, register_named, node_entries, node_named}
use Rattle.format.specs.References.{named_by, fits, has_register, has_node, has_rule}
use Rattle.format.specs.Cycles.{OnCycle}
use Rattle.format.specs.Encoding.{encode, operand_count}
use Rattle.format.specs.Tree.{Expr, Exprs, reading, constant, all, any, inverse, left, right, none, more, Capture, Rule, Child, Chip}

-- Every element has the property.
unfoldable pub Every : {A : Type 0} → (A → Type 0) → List A → Type 0
Every P [] = Unit {0}
Every P (x ∷ xs) = P x × Every P xs

-- No number stands twice.
unfoldable pub Distinct : List ℕ → Type 0
Distinct [] = Unit {0}
Distinct (x ∷ xs) = (member x xs ≡ false) × Distinct xs

-- All captures, rules and child entries of a chip, in file order.
unfoldable pub all_captures : Chip → List Capture
all_captures c = gathered (λ e. e.instance.captures) (node_entries c)

unfoldable pub all_rules : Chip → List Rule
all_rules c = gathered (λ e. e.instance.rules) (node_entries c)

unfoldable pub all_children : Chip → List Child
all_children c = gathered (λ e. e.instance.children) (node_entries c)

-- The levels that an expression takes: "The outermost expression has level 1".
unfoldable mutual
  pub depth : Expr → ℕ
  depth (reading p id number) = 1
  depth (constant v) = 1
  depth (all es) = suc (depths es)
  depth (any es) = suc (depths es)
  depth (inverse e) = suc (depth e)
  depth (left k e) = suc (depth e)
  depth (right k e) = suc (depth e)

  pub depths : Exprs → ℕ
  depths none = 0
  depths (more e es) = max (depth e) (depths es)

-- "A count is 2 or more and a shift is 1 or more", in the whole expression.
unfoldable mutual
  pub Counted : Expr → Type 0
  Counted (reading p id number) = Unit {0}
  Counted (constant v) = Unit {0}
  Counted (all es) = (2 ≤ operand_count es) × CountedAll es
  Counted (any es) = (2 ≤ operand_count es) × CountedAll es
  Counted (inverse e) = Counted e
  Counted (left k e) = (1 ≤ k) × Counted e
  Counted (right k e) = (1 ≤ k) × Counted e

  pub CountedAll : Exprs → Type 0
  CountedAll none = Unit {0}
  CountedAll (more e es) = Counted e × CountedAll es

-- Every number of an expression fits its field.
unfoldable mutual
  pub ExprFits : Expr → Type 0
  ExprFits (reading p id number) = (id < 256 ^ 3) × (number < 256)
  ExprFits (constant v) = v < 256 ^ 8
  ExprFits (all es) = (operand_count es < 256) × ExprsFit es
  ExprFits (any es) = (operand_count es < 256) × ExprsFit es
  ExprFits (inverse e) = ExprFits e
  ExprFits (left k e) = (k < 256) × ExprFits e
  ExprFits (right k e) = (k < 256) × ExprFits e

  pub ExprsFit : Exprs → Type 0
  ExprsFit none = Unit {0}
  ExprsFit (more e es) = ExprFits e × ExprsFit es

module _ (c : Chip) where
  -- Every number fits its field: without this the encoding would not hold it.
  pub record FieldsFit : Type 0 where
    pub model : c.model < 256 ^ 4
    pub register_count : length c.registers < 256 ^ 3
    pub registers : Every (λ r. (r.id < 256 ^ 3) × (r.flags < 256) × (length r.instances < 256)) c.registers
    pub register_instances : Every (λ e. (e.instance.number < 256) × (e.instance.address < 256 ^ address_size e.type)) (register_entries c)
    pub node_count : length c.nodes < 256 ^ 2
    pub nodes : Every (λ n. (n.id < 256 ^ 2) × (length n.instances < 256)) c.nodes
    pub node_instances : Every
        (λ e. (e.instance.number < 256) × (length e.instance.captures < 256) × (length e.instance.rules < 256) × (length e.instance.children < 256))
        (node_entries c)
    pub captures : Every (λ k. (k.id < 256 ^ 3) × (k.number < 256)) (all_captures c)
    pub expressions : Every (λ r. ExprFits r.expression) (all_rules c)
    pub children : Every (λ k. (k.id < 256 ^ 2) × (k.number < 256)) (all_children c)
    pub root_count : length c.roots < 256
    pub roots : Every (λ t. (t.id < 256 ^ 2) × (t.number < 256)) c.roots

  -- 5: "Counts of captures and children may be 0; the other counts may not."
  pub record CountsNotZero : Type 0 where
    pub registers : 0 < length c.registers
    pub register_instances : Every (λ r. 0 < length r.instances) c.registers
    pub nodes : 0 < length c.nodes
    pub node_instances : Every (λ n. 0 < length n.instances) c.nodes
    pub rules : Every (λ e. 0 < length e.instance.rules) (node_entries c)
    pub roots : 0 < length c.roots

  -- 6: types, flags and attention types are known.
  pub record ValuesKnown : Type 0 where
    pub registers : Every (λ r. (known_type r.type ≡ true) × (known_flags r.flags ≡ true)) c.registers
    pub nodes : Every (λ n. known_type n.type ≡ true) c.nodes
    pub rules : Every (λ r. known_attention r.attention ≡ true) (all_rules c)
    pub roots : Every (λ t. known_attention t.attention ≡ true) c.roots

  -- 7: "Unique: register IDs, instance numbers within a register, node IDs, instance numbers within a node, root attention types (001); rule attention types within a node instance and child bits within a node instance (house)."
  pub record NamesUnique : Type 0 where
    pub registers : Distinct (map (λ r. r.id) c.registers)
    pub register_instances : Every (λ r. Distinct (map (λ i. i.number) r.instances)) c.registers
    pub nodes : Distinct (map (λ n. n.id) c.nodes)
    pub node_instances : Every (λ n. Distinct (map (λ i. i.number) n.instances)) c.nodes
    pub rules : Every (λ e. Distinct (map (λ r. r.attention) e.instance.rules)) (node_entries c)
    pub children : Every (λ e. Distinct (map (λ k. k.bit) e.instance.children)) (node_entries c)
    pub roots : Distinct (map (λ t. t.attention) c.roots)

-- 8: at most so many register instances and node instances.
pub record WithinLimits (limits : Limits) (c : Chip) : Type 0 where
  pub registers : length (register_entries c) ≤ limits.register_instances
  pub nodes : length (node_entries c) ≤ limits.node_instances

module _ (c : Chip) where
  -- 9: counts of 2 or more, shifts of 1 or more, at most 16 levels.
  pub record ExpressionsSound : Type 0 where
    pub counted : Every (λ r. Counted r.expression) (all_rules c)
    pub nested : Every (λ r. depth r.expression ≤ levels) (all_rules c)

  -- 12: what is named is in the file, and a root's node instance has a rule for the root's attention type.
  pub record NamesPresent : Type 0 where
    pub captures : Every (λ k. has_register c k.id k.number ≡ true) (all_captures c)
    pub rules : Every (λ r. Every (λ n. has_register c n.id n.number ≡ true) (named_by r.expression)) (all_rules c)
    pub children : Every (λ k. has_node c k.id k.number ≡ true) (all_children c)
    pub roots : Every (λ t. some (λ e. node_named t.id t.number e && has_rule t.attention e.instance) (node_entries c) ≡ true) c.roots

  -- 13: a register that a rule names has the node's type and is readable.
  unfoldable pub RegistersFit : Type 0
  RegistersFit =
      Every
      (λ e. Every
      (λ r. Every (λ n. some (λ x. register_named n.id n.number x && fits e.type x) (register_entries c) ≡ true) (named_by r.expression))
      e.instance.rules)
      (node_entries c)

  -- 13: a captured register is readable (document 02, i).
  unfoldable pub CapturesReadable : Type 0
  CapturesReadable = Every (λ k. some (λ x. register_named k.id k.number x && readable x.flags) (register_entries c) ≡ true) (all_captures c)

-- All rules, by the limits that hold.
pub record Meets (limits : Limits) (c : Chip) : Type 0 where
  pub fields : FieldsFit c
  -- 1: a "file longer than" the limit
  pub size : length (encode c) ≤ limits.bytes
  -- 5
  pub counts : CountsNotZero c
  -- 6
  pub known : ValuesKnown c
  -- 7
  pub unique : NamesUnique c
  -- 8
  pub within : WithinLimits limits c
  -- 9
  pub expressions : ExpressionsSound c
  -- 10: "child bit above 63"
  pub bits : Every (λ k. k.bit < 64) (all_children c)
  -- 12
  pub present : NamesPresent c
  -- 13
  pub fit : RegistersFit c
  pub captures : CapturesReadable c
  -- 14: "the child entries make a cycle"
  pub acyclic : (i : ℕ) → OnCycle c i → ⊥
