-- What is computed of paths is what they are.
use mathlib.Core.Path.{◌≡◌, subst}
use mathlib.Core.Bool.{Bool, true}
use mathlib.Core.Logic.{◌⊎◌, inl, inr, ⊎_elim, ◌↔◌}
use Prim.Native.Nat.{ℕ, zero, suc, ◌≤◌, ◌<◌}
use native.Mathlib.Omega.{arith}
use Rattle.numbers.proofs.Bools.{and_left, and_right, and_both, or_left, or_right, or_cases, same?}
use Rattle.graph.specs.Below.{count}
use Rattle.graph.specs.Paths.{Path, one, more, Reached, here, next, Inside, reached_in, reached, on_cycle}
use Rattle.graph.proofs.BelowLaws.{any_in, any_out, count-le, count_more, within?}

-- Paths from i are what the other ends of i's edges reach.

path_next : (edge : ℕ → ℕ → Bool) {i j k : ℕ} → Path edge i j → edge j k ≡ true → Path edge i k
path_next edge (one e) h = more e (one h)
path_next edge (more e p) h = more e (path_next edge p h)

reached_path : (edge : ℕ → ℕ → Bool) {i j : ℕ} → Reached (edge i) edge j → Path edge i j
reached_path edge (here e) = one e
reached_path edge (next r e) = path_next edge (reached_path edge r) e

reached_on : (start : ℕ → Bool) (edge : ℕ → ℕ → Bool) {j k : ℕ} → Reached start edge j → Path edge j k → Reached start edge k
reached_on start edge r (one e) = next r e
reached_on start edge r (more e p) = reached_on start edge (next r e) p

path_reached : (edge : ℕ → ℕ → Bool) {i j : ℕ} → Path edge i j → Reached (edge i) edge j
path_reached edge (one e) = here e
path_reached edge (more e p) = reached_on _ edge (here e) p

module _ (n : ℕ) (start : ℕ → Bool) (edge : ℕ → ℕ → Bool) where
  in_sound : (k j : ℕ) → reached_in n start edge k j ≡ true → Reached start edge j
  unfolding reached_in
  in_sound zero j e = here e
  in_sound (suc k) j e =
      ⊎_elim (in_sound k j)
      (λ d. let r = any_out n _ d in next (in_sound k r.0 (and_left _ _ r.2)) (and_right (reached_in n start edge k r.0) _ r.2))
      (or_cases (reached_in n start edge k j) _ e)

  in_more : (k j : ℕ) → reached_in n start edge k j ≡ true → reached_in n start edge (suc k) j ≡ true
  unfolding reached_in
  in_more k j e = or_left _ e

  in_next : (k i j : ℕ) → i < n → reached_in n start edge k i ≡ true → edge i j ≡ true → reached_in n start edge (suc k) j ≡ true
  unfolding reached_in
  in_next k i j h e l = or_right (reached_in n start edge k j) (any_in n _ i h (and_both e l))

  in_start : (j : ℕ) → start j ≡ true → reached_in n start edge 0 j ≡ true
  unfolding reached_in
  in_start j e = e

  in-le : (k m j : ℕ) → k ≤ m → reached_in n start edge k j ≡ true → reached_in n start edge m j ≡ true
  in-le k zero j h e = subst (λ x. reached_in n start edge x j ≡ true) (let z : k ≡ 0 = omega arith in z) e
  in-le k (suc m) j h e =
      ⊎_elim (λ d. subst (λ x. reached_in n start edge x j ≡ true) d e) (λ d. in_more m j (in-le k m j (omega arith) e)) (same? k (suc m))

  -- One edge more reaches nothing new.
  abbrev Stable : ℕ → Type 0
  Stable k = (j : ℕ) → j < n → reached_in n start edge (suc k) j ≡ true → reached_in n start edge k j ≡ true

  -- Either it is stable before k, or at least k are reached.
  grows : (k : ℕ) → ((m : ℕ) × (m < k) × Stable m) ⊎ (k ≤ count n (reached_in n start edge k))
  grows zero = inr (omega arith)
  grows (suc k) =
      ⊎_elim (λ r. inl (r.0, omega (arith, r.1), r.2))
      (λ h. ⊎_elim (λ s. inl (k, omega arith, s))
      (λ r. inr (omega (arith, h, count_more (reached_in n start edge k) (reached_in n start edge (suc k)) (in_more k) n r.0 r.1 r.2 r.3)))
      (within? (reached_in n start edge k) (reached_in n start edge (suc k)) n))
      (grows k)

  module _ (inside : Inside n edge) where
    stable_all : (m : ℕ) → Stable m → {j : ℕ} → Reached start edge j → reached_in n start edge m j ≡ true
    stable_all m s (here {j = j} e) = in-le 0 m j (omega arith) (in_start j e)
    stable_all m s (next {i = i} {j = j} r e) =
        let h = inside i j e in s j h.1 (in_next m i j h.0 (stable_all m s r) e)

    in_complete : {j : ℕ} → Reached start edge j → reached_in n start edge n j ≡ true
    in_complete {j} r =
        ⊎_elim (λ s. in-le s.0 n j (omega (arith, s.1)) (stable_all s.0 s.2 r))
        (λ h. absurd (omega (arith, h, count-le n (reached_in n start edge (suc n)))))
        (grows (suc n))

    pub reached_law : (j : ℕ) → (reached n start edge j ≡ true) ↔ Reached start edge j
    unfolding reached
    reached_law j = (in_sound n j, in_complete)

-- What is computed of the ends of i's edges is that a path leads from i to j.
pub path_law : (n : ℕ) (edge : ℕ → ℕ → Bool) → Inside n edge → (i j : ℕ) → (reached n (edge i) edge j ≡ true) ↔ Path edge i j
path_law n edge inside i j =
    let l = reached_law n (edge i) edge inside j in
    (λ e. reached_path edge (l.0 e), λ p. l.1 (path_reached edge p))

-- i lies on a cycle exactly when a path leads from i back to i.
pub cycle_law : (n : ℕ) (edge : ℕ → ℕ → Bool) → Inside n edge → (i : ℕ) → (on_cycle n edge i ≡ true) ↔ Path edge i i
unfolding on_cycle
cycle_law n edge inside i = path_law n edge inside i i
