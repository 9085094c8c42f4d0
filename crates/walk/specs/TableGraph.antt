-- The graph that two tables give: a word of active bits for each node instance, and 64 places for the children of each.
use Rattle.std.specs.Prelude.{ℕ, ◌+◌, ◌*◌, min, cond, ◌&&◌, List, ltb, length, get_or}
use Rattle.std.proofs.Math.Option.{Option, none, some}
use Rattle.numbers.specs.Bits.{bit_of}
use Rattle.graph.specs.Chains.{Graph}
use Rattle.walk.specs.Marks.{mark_count}

-- The walk knows the node instances for which it has a mark.
unfoldable pub table_size : List ℕ → ℕ
table_size act = min (length act) mark_count

-- The child at a place of the table, if there is such a place and it holds a node instance.
unfoldable pub child_at : ℕ → List ℕ → ℕ → Option ℕ
child_at size ch k = cond (ltb k (length ch) && ltb (get_or ch k 0) size) (some (get_or ch k 0)) none

unfoldable pub table_graph : List ℕ → List ℕ → Graph
table_graph act ch =
    record {
      size = table_size act;
      active = λ i b. ltb i (table_size act) && bit_of 64 (get_or act i 0) b;
      child = λ i b. cond (ltb i (table_size act) && ltb b 64) (child_at (table_size act) ch (i * 64 + b)) none;
    }
