-- Further laws of tests of the numbers below n.
use Rattle.std.proofs.Common.{◌≡◌, ℕ, zero, suc, ◌+◌, ◌<◌, Bool, false, sym, refl, ap, ◌∙◌, add-one, arith}
use Rattle.graph.specs.Below.{any}

pub any_none : (p : ℕ → Bool) → any 0 p ≡ false
unfolding any
any_none p = refl

pub any_more : (n : ℕ) (p : ℕ → Bool) → any n p ≡ false → p n ≡ false → any (n + 1) p ≡ false
unfolding any
any_more n p e d = rw (add-one n, e) d

pub any_end : {k n : ℕ} (p : ℕ → Bool) → any k p ≡ false → k ≡ n → false ≡ any n p
any_end p e d = sym e ∙ ap (λ x. any x p) d

pub any_fails : (n : ℕ) (p : ℕ → Bool) → ((i : ℕ) → i < n → p i ≡ false) → any n p ≡ false
unfolding any
any_fails zero p f = refl
any_fails (suc n) p f = rw (any_fails n p (λ i h. f i (omega arith))) (f n (omega arith))
