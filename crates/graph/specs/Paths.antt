-- Paths of a directed graph on the numbers below n: edge i j says that an edge leads from i to j.
use Rattle.std.specs.Prelude.{ℕ, zero, suc, ◌<◌, Bool, true, ◌&&◌, ◌||◌, ◌≡◌}
use Rattle.graph.specs.Below.{any}

-- One or more edges in a row lead from i to k.
pub data Path (edge : ℕ → ℕ → Bool) : ℕ → ℕ → Type 0 where
  one : {i k : ℕ} → edge i k ≡ true → Path edge i k
  more : {i j k : ℕ} → edge i j ≡ true → Path edge j k → Path edge i k

-- A number is reached: it is a start, or an edge leads to it from one that is reached.
pub data Reached (start : ℕ → Bool) (edge : ℕ → ℕ → Bool) : ℕ → Type 0 where
  here : {j : ℕ} → start j ≡ true → Reached start edge j
  next : {i j : ℕ} → Reached start edge i → edge i j ≡ true → Reached start edge j

-- Both ends of every edge are below n.
abbrev pub Inside : ℕ → (ℕ → ℕ → Bool) → Type 0
Inside n edge = (i j : ℕ) → edge i j ≡ true → (i < n) × (j < n)

-- The same, computed.

-- j is reached by at most k edges.
unfoldable pub reached_in : ℕ → (ℕ → Bool) → (ℕ → ℕ → Bool) → ℕ → ℕ → Bool
reached_in n start edge zero j = start j
reached_in n start edge (suc k) j = reached_in n start edge k j || any n (λ i. reached_in n start edge k i && edge i j)

unfoldable pub reached : ℕ → (ℕ → Bool) → (ℕ → ℕ → Bool) → ℕ → Bool
reached n start edge j = reached_in n start edge n j

-- A path leads from i back to i.
unfoldable pub on_cycle : ℕ → (ℕ → ℕ → Bool) → ℕ → Bool
on_cycle n edge i = reached n (edge i) edge i
