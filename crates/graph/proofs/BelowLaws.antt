-- The laws of `any`, `count` and `below`.
use mathlib.Core.Path.{◌≡◌, refl, sym, ◌∙◌, ap, subst}
use mathlib.Core.Bool.{Bool, true, false}
use mathlib.Core.Logic.{◌⊎◌, inl, inr, ⊎_elim}
use Prim.Native.Nat.{ℕ, zero, suc, ◌+◌, ◌≤◌, ◌<◌}
use mathlib.Core.List.{[], ◌∷◌, ◌++◌, map, map-append}
use native.Mathlib.Omega.{arith}
use lib.ListN.{length, get_or, length-map, length-append, get_or-append}
use lib.Seq.{get_or-append-add}
use Rattle.numbers.proofs.Bools.{either, clash, or_left, or_right, or_cases, same?}
use Rattle.graph.specs.Below.{any, count}
use Rattle.graph.specs.Chains.{below}

pub any_in : (n : ℕ) (p : ℕ → Bool) (i : ℕ) → i < n → p i ≡ true → any n p ≡ true
unfolding any
any_in zero p i h e = absurd (omega arith)
any_in (suc n) p i h e =
    ⊎_elim (λ d. or_right (any n p) (subst (λ x. p x ≡ true) d e)) (λ d. or_left _ (any_in n p i (omega arith) e)) (same? i n)

pub any_out : (n : ℕ) (p : ℕ → Bool) → any n p ≡ true → (i : ℕ) × (i < n) × (p i ≡ true)
unfolding any
any_out zero p e = clash e refl
any_out (suc n) p e =
    ⊎_elim (λ d. let r = any_out n p d in (r.0, omega (arith, r.1), r.2)) (λ d. (n, omega arith, d)) (or_cases (any n p) (p n) e)

pub any_same : (n : ℕ) (p q : ℕ → Bool) → ((i : ℕ) → i < n → q i ≡ p i) → any n q ≡ any n p
unfolding any
any_same zero p q o = refl
any_same (suc n) p q o = rw (o n (omega arith), any_same n p q (λ i h. o i (omega arith)))

pub count_yes : (n : ℕ) (p : ℕ → Bool) → p n ≡ true → count (suc n) p ≡ suc (count n p)
unfolding count
count_yes n p e = rw e

pub count_no : (n : ℕ) (p : ℕ → Bool) → p n ≡ false → count (suc n) p ≡ count n p
unfolding count
count_no n p e = rw e

pub count_none : (p : ℕ → Bool) → count 0 p ≡ 0
unfolding count
count_none p = refl

pub count-le : (n : ℕ) (p : ℕ → Bool) → count n p ≤ n
count-le zero p = omega (arith, count_none p)
count-le (suc n) p =
    let h = count-le n p in ⊎_elim (λ e. omega (arith, count_yes n p e)) (λ e. omega (arith, count_no n p e)) (either (p n))

pub count-zero : (n : ℕ) (p : ℕ → Bool) → ((i : ℕ) → i < n → p i ≡ false) → count n p ≡ 0
count-zero zero p o = count_none p
count-zero (suc n) p o = count_no n p (o n (omega arith)) ∙ count-zero n p (λ i h. o i (omega arith))

module _ (p q : ℕ → Bool) (sub : (i : ℕ) → p i ≡ true → q i ≡ true) where
  count_next : (n : ℕ) → count n p ≤ count n q → count (suc n) p ≤ count (suc n) q
  count_next n h =
      ⊎_elim (λ e. omega (arith, count_yes n p e, count_yes n q (sub n e)))
      (λ e. ⊎_elim (λ d. omega (arith, count_no n p e, count_yes n q d)) (λ d. omega (arith, count_no n p e, count_no n q d)) (either (q n)))
      (either (p n))

  pub count_mono : (n : ℕ) → count n p ≤ count n q
  count_mono zero = omega (arith, count_none p)
  count_mono (suc n) = count_next n (count_mono n)

  pub count_more : (n j : ℕ) → j < n → p j ≡ false → q j ≡ true → count n p < count n q
  count_more zero j h e d = absurd (omega arith)
  count_more (suc n) j h e d =
      ⊎_elim
      (λ s. omega (arith, count_mono n, count_no n p (subst (λ x. p x ≡ false) s e), count_yes n q (subst (λ x. q x ≡ true) s d)))
      (λ s. let r = count_more n j (omega arith) e d in
      ⊎_elim (λ a. omega (arith, count_yes n p a, count_yes n q (sub n a)))
      (λ a. ⊎_elim (λ b. omega (arith, count_no n p a, count_yes n q b)) (λ b. omega (arith, count_no n p a, count_no n q b)) (either (q n)))
      (either (p n)))
      (same? j n)

pub count_same : (n : ℕ) (p q : ℕ → Bool) → ((i : ℕ) → i < n → q i ≡ p i) → count n q ≡ count n p
unfolding count
count_same zero p q o = refl
count_same (suc n) p q o = rw (o n (omega arith), count_same n p q (λ i h. o i (omega arith)))

-- q is true at j, and p is not, and elsewhere they agree
pub count_one : (n : ℕ) (p q : ℕ → Bool) (j : ℕ) → j < n → p j ≡ false → q j ≡ true → ((i : ℕ) → (i ≡ j → ⊥) → i < n → q i ≡ p i)
    → count n q ≡ count n p + 1
count_one zero p q j h e d o = absurd (omega arith)
count_one (suc n) p q j h e d o =
    ⊎_elim
    (λ s. omega (
      arith,
      count_no n p (subst (λ x. p x ≡ false) s e),
      count_yes n q (subst (λ x. q x ≡ true) s d),
      count_same n p q (λ i l. o i (λ z. let y : j ≡ n = s in omega arith) (omega arith)),
    ))
    (λ s. let r = count_one n p q j (omega arith) e d (λ i t l. o i t (omega arith)) in
    let v : q n ≡ p n = o n (λ z. s (sym z)) (omega arith) in
    ⊎_elim (λ a. omega (arith, count_yes n p a, count_yes n q (v ∙ a))) (λ a. omega (arith, count_no n p a, count_no n q (v ∙ a))) (either (p n)))
    (same? j n)

-- below n, q says no more than p, or it does somewhere
pub within? : (p q : ℕ → Bool) (n : ℕ) → ((j : ℕ) → j < n → q j ≡ true → p j ≡ true) ⊎ ((j : ℕ) × (j < n) × (p j ≡ false) × (q j ≡ true))
within? p q zero = inl (λ j h. absurd (omega arith))
within? p q (suc n) = go (within? p q n)
  where
    more : ((j : ℕ) → j < n → q j ≡ true → p j ≡ true) → (q n ≡ true → p n ≡ true) → (j : ℕ) → j < suc n → q j ≡ true → p j ≡ true
    more f e j h d = ⊎_elim (λ s. subst (λ x. p x ≡ true) (sym s) (e (subst (λ x. q x ≡ true) s d))) (λ s. f j (omega arith) d) (same? j n)

    go : ((j : ℕ) → j < n → q j ≡ true → p j ≡ true) ⊎ ((j : ℕ) × (j < n) × (p j ≡ false) × (q j ≡ true))
        → ((j : ℕ) → j < suc n → q j ≡ true → p j ≡ true) ⊎ ((j : ℕ) × (j < suc n) × (p j ≡ false) × (q j ≡ true))
    go (inr r) = inr (r.0, omega (arith, r.1), r.2, r.3)
    go (inl f) =
        ⊎_elim (λ a. inl (more f (λ _. a)))
        (λ a. ⊎_elim (λ b. inr (n, omega arith, a, b)) (λ b. inl (more f (λ y. clash y b))) (either (q n)))
        (either (p n))

-- The numbers below n.

pub below_length : (n : ℕ) → length (below n) ≡ n
unfolding below
below_length zero = refl
below_length (suc n) = let a = length-append (below n) (n ∷ []) in let b = below_length n in omega arith

pub below_at : (f : ℕ → ℕ) (n b : ℕ) → b < n → get_or (map f (below n)) b 0 ≡ f b
unfolding below
below_at f zero b h = absurd (omega arith)
below_at f (suc n) b h =
    let l : length (map f (below n)) ≡ n = length-map (below n) f ∙ below_length n in
    ap (λ t. get_or t b 0) (map-append f (below n) (n ∷ []))
    ∙ ⊎_elim
    (λ d.
    let e : b ≡ length (map f (below n)) + 0 = omega arith in
    ap (λ k. get_or (map f (below n) ++ (f n ∷ [])) k 0) e ∙ get_or-append-add (map f (below n)) (f n ∷ []) 0 0 ∙ ap f (sym d))
    (λ d.
    let k : b < n = omega arith in
    get_or-append (map f (below n)) (f n ∷ []) 0 b (omega (arith, l)) ∙ below_at f n b k)
    (same? b n)
