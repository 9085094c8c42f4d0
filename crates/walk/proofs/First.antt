-- The first waiting mark.
use mathlib.Core.Path.{◌≡◌, refl, ap}
use mathlib.Core.Bool.{Bool, true, false, cond}
use mathlib.Core.List.{List, [], ◌∷◌}
use Prim.Native.Nat.{ℕ, zero, suc, ◌≤◌, ◌<◌}
use native.Mathlib.Omega.{arith}
use lib.Dec.{eqb}
use lib.ListN.{length, get_or}
use borrow.Author.Tests.{eq-eqb, ne_eqb, eqb-true}
use Rattle.walk.specs.Marks.{first_waiting}

pub first_at : (m : List ℕ) (i : ℕ) → i < length m → ((k : ℕ) → k < i → get_or m k 0 ≡ 1 → ⊥) → get_or m i 0 ≡ 1 → i ≡ first_waiting m
first_at [] i h b e = absurd (omega arith)
first_at (x ∷ m) zero h b e = simp (eq-eqb x 1 e)
first_at (x ∷ m) (suc i) h b e =
    simp (ne_eqb x 1 (b 0 (omega arith)))
    (ap suc (first_at m i (omega arith) (λ k l. b (suc k) (omega arith)) e))

pub first_none : (m : List ℕ) → ((k : ℕ) → k < length m → get_or m k 0 ≡ 1 → ⊥) → length m ≡ first_waiting m
first_none [] b = refl
first_none (x ∷ m) b =
    simp (ne_eqb x 1 (b 0 (omega arith)))
    (ap suc (first_none m (λ k l. b (suc k) (omega arith))))

pub first_waits : (m : List ℕ) → first_waiting m < length m → get_or m (first_waiting m) 0 ≡ 1
first_waits [] h = absurd (omega arith)
first_waits (x ∷ m) h = go (eqb x 1) refl (first_waits m)
  where
    go : (t : Bool) → eqb x 1 ≡ t → (first_waiting m < length m → get_or m (first_waiting m) 0 ≡ 1) → get_or (x ∷ m) (first_waiting (x ∷ m)) 0 ≡ 1
    go true e r = simp e (eqb-true x 1 e)
    go false e r = simp e (r (let h' = simp e at h in omega arith))

pub first-le : (m : List ℕ) (k : ℕ) → k < length m → get_or m k 0 ≡ 1 → first_waiting m ≤ k
first-le [] k l e = absurd (omega arith)
first-le (x ∷ m) zero l e = simp (eq-eqb x 1 e) (omega arith)
first-le (x ∷ m) (suc k) l e = go (eqb x 1) (first-le m k (omega arith) e)
  where
    go : (t : Bool) → first_waiting m ≤ k → cond t zero (suc (first_waiting m)) ≤ suc k
    go true r = omega arith
    go false r = omega arith
