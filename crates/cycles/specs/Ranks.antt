-- Ranks of the node instances of a table of children, one number for each.
use Rattle.std.specs.Prelude.{ℕ, ◌/◌, Bool, false, List, slice_index, Option, None, Some}
use Rattle.std.proofs.Math.Option.{Option as MaybeChild, none, some}
use Rattle.walk.specs.TableGraph.{child_at}

-- There is a child, and it passes the test.
abbrev pub child_passes : (ℕ → Bool) → MaybeChild ℕ → Bool
child_passes p none = false
child_passes p (some c) = p c

-- The place k holds a child, and the rank of the node instance k / 64, whose place it is, and the child's rank pass the test: with nat_le the child's is not below, with nat_lt it is above.
unfoldable pub ranks_at : (ℕ → ℕ → Bool) → List ℕ → ℕ → List ℕ → ℕ → Bool
ranks_at p rank n ch k = child_passes (λ c. p (slice_index rank (k / 64)) (slice_index rank c)) (child_at n ch k)

-- Two ranks, if there are two, pass the test.
abbrev pub pair_passes : (ℕ → ℕ → Bool) → Option (ℕ × ℕ) → Bool
pair_passes p None = false
pair_passes p (Some q) = p q.0 q.1
