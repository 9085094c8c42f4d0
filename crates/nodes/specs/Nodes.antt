-- What the answers about nodes stand for, and what is kept of a node.
use Rattle.std.specs.Prelude.{ℕ, Bool, true, List, [], ◌≡◌, length, ltb}
use Rattle.format.specs.Parsed.{Parsed, done, and_then, making, requiring, row_at}
use Rattle.format.specs.Fields.{field_at, count_at}
use Rattle.format.specs.Tree.{Rule, Child, NodeInstance, Node}
use Rattle.format.specs.NodeLayout.{NodeHead, InstanceHead, node_total, capture_at, rule_at, child_at}
use Rattle.fields.specs.Views.{Element, Section, refused_by}
use Rattle.nodes.specs.declared.NodeHeadRead.{NodeHeadRead}
use Rattle.nodes.specs.declared.InstanceHeadRead.{InstanceHeadRead}

abbrev pub node_head_parsed : NodeHeadRead → Parsed NodeHead
node_head_parsed (NodeHeadRead.Head h next) = done (record { id = h.id; type = h.kind; count = h.count }) next
node_head_parsed (NodeHeadRead.Refused r) = refused_by r

abbrev pub instance_head_parsed : InstanceHeadRead → Parsed InstanceHead
instance_head_parsed (InstanceHeadRead.Head h next) = done (record { number = h.number; captures = h.captures; rules = h.rules; children = h.children }) next
instance_head_parsed (InstanceHeadRead.Refused r) = refused_by r

abbrev pub rule_attention : Rule → ℕ
rule_attention r = r.attention

abbrev pub child_bit : Child → ℕ
child_bit c = c.bit

abbrev pub node_number : NodeInstance → ℕ
node_number i = i.number

abbrev pub node_id : Node → ℕ
node_id n = n.id

abbrev pub node_element : Node → Element
node_element n = record { id = n.id; instances = length n.instances }

abbrev pub node_section : List Node → Section
node_section ns = record { elements = length ns; instances = node_total ns }

-- The bit position of a child: 10 where it is above 63, 7 where it is not new.
unfoldable pub child_bit_at : List ℕ → (ℕ → Bool) → ℕ → Parsed ℕ
child_bit_at s new at = requiring new 7 at (requiring (λ b. ltb b 64) 10 at (field_at s at 1))

-- The rest of a node instance's head, after its number and its capture count.
unfoldable pub counts_at : List ℕ → ℕ → ℕ → ℕ → Parsed InstanceHead
counts_at s n c at = and_then (count_at s at 1) λ r a. making (λ k. record { number = n; captures = c; rules = r; children = k }) (field_at s a 1)

-- So many captures, rules and children.
unfoldable pub node_body_at : List ℕ → ℕ → ℕ → ℕ → ℕ → Parsed (List Child)
node_body_at s c r k at = and_then (row_at (capture_at s) c [] at) λ cs a. and_then (row_at (rule_at s true) r [] a) λ rs b. row_at (child_at s true) k [] b

-- So many children are read at a place, up to another.
pub record ChildrenRead (s : List ℕ) (n at end : ℕ) : Type 0 where
  pub children : List Child
  pub read : row_at (child_at s true) n [] at ≡ done children end
