-- The first number below n that passes a test.
use Rattle.std.proofs.Common.{◌≡◌, ℕ, zero, suc, ◌<◌, Bool, true, false, cond, refl, ap, arith}
use Rattle.cycles.specs.Cycle.{first_below, First}

pub first_at : (n : ℕ) (p : ℕ → Bool) (i : ℕ) → i < n → ((k : ℕ) → k < i → p k ≡ false) → p i ≡ true → i ≡ first_below n p
unfolding first_below
first_at zero p i h b e = absurd (omega arith)
first_at (suc n) p zero h b e = rw e
first_at (suc n) p (suc i) h b e =
    rw (b 0 (omega arith)) (ap suc (first_at n (λ k. p (suc k)) i (omega arith) (λ k l. b (suc k) (omega arith)) e))

pub first_none : (n : ℕ) (p : ℕ → Bool) → ((k : ℕ) → k < n → p k ≡ false) → n ≡ first_below n p
unfolding first_below
first_none zero p b = refl
first_none (suc n) p b = rw (b 0 (omega arith)) (ap suc (first_none n (λ k. p (suc k)) (λ k l. b (suc k) (omega arith))))

pub first_law : (n : ℕ) (p : ℕ → Bool) → First n p (first_below n p)
unfolding first_below
first_law zero p = record { most = omega arith; passes = λ h. absurd (omega arith); before = λ k h. absurd (omega arith) }
first_law (suc n) p = go (p zero) refl (first_law n (λ i. p (suc i)))
  where
    next : {r : ℕ} → p zero ≡ false → First n (λ i. p (suc i)) r → (k : ℕ) → k < suc r → p k ≡ false
    next e f zero h = e
    next e f (suc k) h = f.before k (omega arith)

    go : (t : Bool) → p zero ≡ t → {r : ℕ} → First n (λ i. p (suc i)) r → First (suc n) p (cond t zero (suc r))
    go true e f = record { most = omega arith; passes = λ h. e; before = λ k h. absurd (omega arith) }
    go false e f = record { most = let h = f.most in omega arith; passes = λ h. f.passes (omega arith); before = next e f }
