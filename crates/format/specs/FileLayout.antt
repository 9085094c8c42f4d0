-- The layout of a whole file (source document 001, sections 1 and 4).
use Rattle.std.specs.Prelude.{ℕ, Bool, List, [], map, eqb}
use Rattle.limits.specs.Limits.{Limits}
use Rattle.format.specs.Keywords.{chipdata, root}
use Rattle.format.specs.Parsed.{Parsed, and_then, making, requiring, row_at}
use Rattle.format.specs.Fields.{field_at, keyword_at, count_at, attention_at, fresh}
use Rattle.format.specs.RegisterLayout.{registers_at}
use Rattle.format.specs.NodeLayout.{nodes_at}
use Rattle.format.specs.Tree.{Root, Chip}

-- "8 bytes "CHIPDATA", 4 bytes model/level (any value), 1 byte version, which is 1": otherwise 4.
unfoldable pub start_at : List ℕ → ℕ → Parsed ℕ
start_at s at =
    and_then (keyword_at s at chipdata) λ _ a. and_then (field_at s a 4) λ m b.
    making (λ _. m) (requiring (eqb 1) 4 b (field_at s b 1))

-- "Each root: 1 attention type, 2 node ID, 1 instance"; 7 where the type has a root already.
unfoldable pub root_at : List ℕ → Bool → List Root → ℕ → Parsed Root
root_at s unique before at =
    and_then (requiring (fresh unique (map (λ r. r.attention) before)) 7 at (attention_at s at)) λ t a.
    and_then (field_at s a 2) λ i b. making (λ n. record { place = at; attention = t; id = i; number = n }) (field_at s b 1)

-- ""ROOT", 1-byte count", and the roots.
unfoldable pub roots_at : List ℕ → Bool → ℕ → Parsed (List Root)
roots_at s unique at =
    and_then (keyword_at s at root) λ _ a. and_then (count_at s a 1) λ n b. row_at (root_at s unique) n [] b

-- The whole file, by the limits of its register instances and node instances. Where `unique` is false, number 7 is not looked at.
unfoldable pub file_at : Limits → List ℕ → Bool → ℕ → Parsed Chip
file_at limits s unique at =
    and_then (start_at s at) λ m a. and_then (registers_at limits.register_instances s unique a) λ rs b.
    and_then (nodes_at limits.node_instances s unique b) λ ns c.
    making (λ ts. record { model = m; registers = rs; nodes = ns; roots = ts }) (roots_at s unique c)
