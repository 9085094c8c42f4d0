-- Children by the order of the node instances.
use Rattle.std.specs.Prelude.{ℕ, ◌*◌, ◌/◌, Bool, not, ◌&&◌, List, length, nat_le, nat_lt, slice_index}
use Rattle.graph.specs.Below.{any}

-- c is not after i.
unfoldable pub not_later : ℕ → ℕ → Bool
not_later i c = nat_le c i

-- c is one of n, and not before i.
unfoldable pub not_earlier : ℕ → ℕ → ℕ → Bool
not_earlier n i c = nat_le i c && nat_lt c n

-- No number of a row passes the test.
unfoldable pub none_in : (ℕ → Bool) → List ℕ → Bool
none_in p row = not (any (length row) (λ b. p (slice_index row b)))

-- The table has the 64 places of each of n node instances, and no number in them passes the test of its node instance.
unfoldable pub none_at : (ℕ → ℕ → Bool) → ℕ → List ℕ → Bool
none_at p n ch = nat_le (n * 64) (length ch) && not (any (n * 64) (λ k. p (k / 64) (slice_index ch k)))
