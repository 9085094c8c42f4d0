-- Cycles of the child entries of a table, "whatever the attention type or the readings" (document 01). The table has 64 places for the children of each node instance.
use Rattle.std.specs.Prelude.{◌≡◌, ℕ, zero, suc, ◌+◌, ◌*◌, ◌<◌, ◌≤◌, min, Bool, true, false, cond, ◌&&◌, List, nat_eq, nat_lt}
use Rattle.limits.specs.Limits.{library_limits}
use Rattle.graph.specs.Below.{any}
use Rattle.graph.specs.Chains.{names}
use Rattle.graph.specs.Paths.{Reached, on_cycle}
use Rattle.walk.specs.TableGraph.{child_at}

-- How many of n node instances are looked at: the walk knows no more than 1,024.
unfoldable pub looked_at : ℕ → ℕ
looked_at n = min n library_limits.node_instances

-- Some bit of the node instance i has the child j, of n node instances.
unfoldable pub table_edge : ℕ → List ℕ → ℕ → ℕ → Bool
table_edge n ch i j = nat_lt i n && any 64 (λ b. names (child_at n ch (i * 64 + b)) j)

-- The node instance i of n lies on a cycle.
unfoldable pub in_cycle : ℕ → List ℕ → ℕ → Bool
in_cycle n ch i = on_cycle n (table_edge n ch) i

-- The first number below n that passes the test; n where none does.
unfoldable pub first_below : ℕ → (ℕ → Bool) → ℕ
first_below zero p = zero
first_below (suc n) p = cond (p zero) zero (suc (first_below n (λ i. p (suc i))))

-- "The first node instance in file order that lies on one"; where none does, the number of those looked at.
unfoldable pub first_cycle : List ℕ → ℕ → ℕ
first_cycle ch n = first_below (looked_at n) (in_cycle (looked_at n) ch)

-- r is the first number below n that passes the test, or n where none does, said without computing it.
pub record First (n : ℕ) (p : ℕ → Bool) (r : ℕ) : Type 0 where
  pub most : r ≤ n
  pub passes : r < n → p r ≡ true
  pub before : (k : ℕ) → k < r → p k ≡ false

-- k is i, or is reached from it.
abbrev pub From : (ℕ → ℕ → Bool) → ℕ → ℕ → Type 0
From edge i k = Reached (λ x. nat_eq x i) edge k
