-- A type by its rank.
use Prim.Native.Nat.{ℕ, ◌+◌, ◌≤◌, ◌<◌}
use mathlib.Core.Path.{◌≡◌}
use native.Mathlib.Omega.{arith}
use Rattle.records.specs.Ranks.{Ranked}

pub rank_low : {f r : ℕ} (k : ℕ) → Ranked f r → r ≡ k → 1 ≤ k → k < 3 → f ≡ k
rank_low k (Ranked.low a e) h p q = omega (arith, e, h)
rank_low k (Ranked.between a b e) h p q = absurd (omega (arith, e, h, p))
rank_low k (Ranked.high a e) h p q = absurd (omega (arith, a, e, h, q))

pub rank_high : {f r : ℕ} (k : ℕ) → Ranked f r → r ≡ k → 3 ≤ k → f ≡ k + 13
rank_high k (Ranked.low a e) h p = absurd (omega (arith, a, e, h, p))
rank_high k (Ranked.between a b e) h p = absurd (omega (arith, e, h, p))
rank_high k (Ranked.high a e) h p = omega (arith, e, h)

-- Another rank is that of another type.
pub not_low : {f r : ℕ} (k : ℕ) → Ranked f r → (r ≡ k → ⊥) → k < 3 → f ≡ k → ⊥
not_low k (Ranked.low a e) n q h = n (omega (arith, e, h))
not_low k (Ranked.between a b e) n q h = absurd (omega (arith, a, q, h))
not_low k (Ranked.high a e) n q h = absurd (omega (arith, a, q, h))

pub not_high : {f r : ℕ} (k : ℕ) → Ranked f r → (r ≡ k → ⊥) → 3 ≤ k → f ≡ k + 13 → ⊥
not_high k (Ranked.low a e) n q h = absurd (omega (arith, a, q, h))
not_high k (Ranked.between a b e) n q h = absurd (omega (arith, b, q, h))
not_high k (Ranked.high a e) n q h = n (omega (arith, e, h))
