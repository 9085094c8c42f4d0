-- The layout of the isolation nodes (source document 001, section 3).
use Rattle.std.specs.Prelude.{ℕ, ◌+◌, Bool, List, [], ◌∷◌, map, length, ltb}
use Rattle.limits.specs.Limits.{levels}
use Rattle.format.specs.Keywords.{node}
use Rattle.format.specs.Parsed.{Parsed, and_then, making, requiring, row_at}
use Rattle.format.specs.Fields.{field_at, keyword_at, count_at, type_at, attention_at, fresh}
use Rattle.format.specs.ExpressionLayout.{expr_at}
use Rattle.format.specs.Tree.{Capture, Rule, Child, NodeInstance, Node}

-- "The captures (3-byte register ID, 1 instance)."
unfoldable pub capture_at : List ℕ → List Capture → ℕ → Parsed Capture
capture_at s before at =
    and_then (field_at s at 3) λ i a. making (λ n. record { place = at; id = i; number = n }) (field_at s a 1)

-- "The rules (1 attention type, expression)"; 7 where the instance has a rule for the type already.
unfoldable pub rule_at : List ℕ → Bool → List Rule → ℕ → Parsed Rule
rule_at s unique before at =
    and_then (requiring (fresh unique (map (λ r. r.attention) before)) 7 at (attention_at s at)) λ t a.
    making (λ e. record { attention = t; place = a; expression = e }) (expr_at s levels a)

-- "The children (1 bit position, 2 node ID, 1 instance)"; 10 where the bit is above 63, 7 where the instance has a child for the bit already.
unfoldable pub child_at : List ℕ → Bool → List Child → ℕ → Parsed Child
child_at s unique before at =
    and_then (requiring (fresh unique (map (λ c. c.bit) before)) 7 at (requiring (λ b. ltb b 64) 10 at (field_at s at 1))) λ b a.
    and_then (field_at s a 2) λ i c. making (λ n. record { place = at; bit = b; id = i; number = n }) (field_at s c 1)

-- What a node instance starts with.
pub record InstanceHead : Type 0 where
  pub number : ℕ
  pub captures : ℕ
  pub rules : ℕ
  pub children : ℕ

-- "Each instance: 1 number, 1 capture count, 1 rule count, 1 child count." A file may have `limit` node instances, and `total` stand before it; 8 where this one is beyond the limit, 7 where the node has the number already.
unfoldable pub instance_head_at : ℕ → List ℕ → Bool → ℕ → List ℕ → ℕ → Parsed InstanceHead
instance_head_at limit s unique total numbers at =
    and_then (requiring (fresh unique numbers) 7 at (requiring (λ n. ltb total limit) 8 at (field_at s at 1))) λ n a.
    and_then (field_at s a 1) λ c b. and_then (count_at s b 1) λ r d.
    making (λ k. record { number = n; captures = c; rules = r; children = k }) (field_at s d 1)

-- A node instance: what it starts with, "then the captures .., the rules .., the children".
unfoldable pub node_instance_at : ℕ → List ℕ → Bool → ℕ → List NodeInstance → ℕ → Parsed NodeInstance
node_instance_at limit s unique total before at =
    and_then (instance_head_at limit s unique (total + length before) (map (λ i. i.number) before) at) λ h a.
    and_then (row_at (capture_at s) h.captures [] a) λ cs b. and_then (row_at (rule_at s unique) h.rules [] b) λ rs c.
    making (λ ks. record { place = at; number = h.number; captures = cs; rules = rs; children = ks })
    (row_at (child_at s unique) h.children [] c)

-- How many instances some nodes have.
unfoldable pub node_total : List Node → ℕ
node_total [] = 0
node_total (n ∷ ns) = length n.instances + node_total ns

-- What a node starts with.
pub record NodeHead : Type 0 where
  pub id : ℕ
  pub type : ℕ
  pub count : ℕ

-- "Each node: 2-byte ID, 1 type, 1 instance count."
unfoldable pub node_head_at : List ℕ → Bool → List ℕ → ℕ → Parsed NodeHead
node_head_at s unique ids at =
    and_then (requiring (fresh unique ids) 7 at (field_at s at 2)) λ i a.
    and_then (type_at s a) λ t b. making (λ n. record { id = i; type = t; count = n }) (count_at s b 1)

unfoldable pub node_at : ℕ → List ℕ → Bool → List Node → ℕ → Parsed Node
node_at limit s unique before at =
    and_then (node_head_at s unique (map (λ n. n.id) before) at) λ h a.
    making (λ is. record { id = h.id; type = h.type; instances = is })
    (row_at (node_instance_at limit s unique (node_total before)) h.count [] a)

-- ""NODE", 2-byte node count", and the nodes.
unfoldable pub nodes_at : ℕ → List ℕ → Bool → ℕ → Parsed (List Node)
nodes_at limit s unique at =
    and_then (keyword_at s at node) λ _ a. and_then (count_at s a 2) λ n b. row_at (node_at limit s unique) n [] b
