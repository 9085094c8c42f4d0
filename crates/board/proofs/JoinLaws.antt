-- The laws of `join`: slots one after another; the first that is stopped, or what all have found.
use Prim.Native.Nat.{ℕ, zero, suc, ◌+◌, ◌<◌}
use mathlib.Core.List.{List, [], ◌∷◌, ◌++◌, map, map-append, append_assoc, append-nil}
use mathlib.Core.Logic.{◌⊎◌, inl, inr, ⊎_elim}
use mathlib.Core.Path.{◌≡◌, refl, sym, ◌∙◌, ap, subst}
use native.Mathlib.Omega.{arith}
use Rattle.limits.specs.Limits.{Limits}
use Rattle.numbers.proofs.Bools.{same?}
use Rattle.graph.specs.Chains.{below}
use Rattle.format.specs.Lookup.{gathered}
use Rattle.format.proofs.GatheredLaws.{gathered-append, gathered_one}
use Rattle.isolation.specs.Outcome.{Findings, stopped, found, find}
use Rattle.board.specs.Board.{total, Slot, Together, stopped_at, joined, before, join_one, join}

pub total-append : (xs ys : List ℕ) → total (xs ++ ys) ≡ total xs + total ys
unfolding total
total-append [] ys = omega arith
total-append (x ∷ xs) ys = omega (arith, total-append xs ys)

pub total_last : (f : ℕ → ℕ) (n : ℕ) → total (map f (below (suc n))) ≡ total (map f (below n)) + f n
unfolding total below
total_last f n =
    ap total (map-append f (below n) (n ∷ [])) ∙ total-append (map f (below n)) (f n ∷ []) ∙ omega arith

pub gathered_last : {A : Type 0} (f : ℕ → List A) (n : ℕ) → gathered f (below (suc n)) ≡ gathered f (below n) ++ f n
unfolding below
gathered_last f n = gathered-append f (below n) (n ∷ []) ∙ ap (λ r. gathered f (below n) ++ r) (gathered_one f n)

-- What some slots find, and then others.
unfoldable pub follow : Together → Together → Together
follow (stopped_at n p k) t = stopped_at n p k
follow (joined c rs s) t = before c rs s t

before_none : (t : Together) → before 0 [] 0 t ≡ t
unfolding before
before_none (stopped_at n p k) = refl
before_none (joined c rs s) = let e : 0 + c ≡ c = omega arith in let d : 0 + s ≡ s = omega arith in rw (e, d)

before_before : (c s d u : ℕ) (rs qs : List ℕ) (t : Together) → before c rs s (before d qs u t) ≡ before (c + d) (rs ++ qs) (s + u) t
unfolding before
before_before c s d u rs qs (stopped_at n p k) = refl
before_before c s d u rs qs (joined e ps v) =
    let x : c + (d + e) ≡ c + d + e = omega arith in
    let y : s + (u + v) ≡ s + u + v = omega arith in
    rw (x, y, append_assoc rs qs ps)

before_follow : (c s : ℕ) (rs : List ℕ) (t u : Together) → before c rs s (follow t u) ≡ follow (before c rs s t) u
unfolding before follow
before_follow c s rs (stopped_at n p k) u = refl
before_follow c s rs (joined d qs v) u = before_before c s d v rs qs u

one_follow : (k : ℕ) (f : Findings) (t u : Together) → join_one k f (follow t u) ≡ follow (join_one k f t) u
unfolding join_one follow
one_follow k (stopped n p) t u = refl
one_follow k (found c rs s) t u = before_follow c s rs t u

-- What isolation found.
abbrev pub count_in : Findings → ℕ
count_in (stopped n p) = 0
count_in (found c rs s) = c

abbrev pub bytes_in : Findings → List ℕ
bytes_in (stopped n p) = []
bytes_in (found c rs s) = rs

abbrev pub steps_in : Findings → ℕ
steps_in (stopped n p) = 0
steps_in (found c rs s) = s

-- It was not stopped.
abbrev pub IsFound : Findings → Type 0
IsFound f = f ≡ found (count_in f) (bytes_in f) (steps_in f)

module _ (limits : Limits) (attention : ℕ) where
  join-append : (xs ys : List Slot) → join limits attention (xs ++ ys) ≡ follow (join limits attention xs) (join limits attention ys)
  unfolding join follow
  join-append [] ys = sym (before_none (join limits attention ys))
  join-append (x ∷ xs) ys =
      rw (join-append xs ys) (one_follow x.number _ (join limits attention xs) (join limits attention ys))

  module _ (slot : ℕ → Slot) where
    -- What is found in a slot, and in the first n slots together.
    abbrev pub find_at : ℕ → Findings
    find_at i = find limits (slot i).number (slot i).file attention (slot i).words (slot i).read

    abbrev pub join_to : ℕ → Together
    join_to n = join limits attention (map slot (below n))

    join_last : (n : ℕ) → join_to (suc n) ≡ follow (join_to n) (join_one (slot n).number (find_at n) (joined 0 [] 0))
    unfolding below join
    join_last n =
        ap (join limits attention) (map-append slot (below n) (n ∷ [])) ∙ join-append (map slot (below n)) (slot n ∷ [])

    -- The first of n slots that is stopped.
    pub record FirstStops (n : ℕ) : Type 0 where
      pub at : ℕ
      pub inside : at < n
      pub number : ℕ
      pub place : ℕ
      pub is : find_at at ≡ stopped number place
      pub earlier : (j : ℕ) → j < at → IsFound (find_at j)
      pub joins : join_to n ≡ stopped_at number place (slot at).number

    -- None of them is stopped.
    pub record AllFound (n : ℕ) : Type 0 where
      pub each : (j : ℕ) → j < n → IsFound (find_at j)
      pub joins : join_to n
          ≡ joined (total (map (λ i. count_in (find_at i)) (below n))) (gathered (λ i. bytes_in (find_at i)) (below n)) (total (map (λ i. steps_in (find_at i)) (below n)))

    still_stops : (n : ℕ) → FirstStops n → FirstStops (suc n)
    unfolding follow
    still_stops n s =
        record {
          at = s.at;
          inside = omega (arith, s.inside);
          number = s.number;
          place = s.place;
          is = s.is;
          earlier = s.earlier;
          joins = join_last n ∙ ap (λ t. follow t (join_one (slot n).number (find_at n) (joined 0 [] 0))) s.joins;
        }

    next_stops : (n : ℕ) → AllFound n → (m p : ℕ) → find_at n ≡ stopped m p → FirstStops (suc n)
    unfolding follow join_one before
    next_stops n a m p e =
        record {
          at = n;
          inside = omega arith;
          number = m;
          place = p;
          is = e;
          earlier = a.each;
          joins = join_last n ∙ rw (a.joins, e);
        }

    next_found : (n : ℕ) → AllFound n → (c : ℕ) (rs : List ℕ) (s : ℕ) → find_at n ≡ found c rs s → AllFound (suc n)
    unfolding follow join_one before
    next_found n a c rs s e =
        let counts : total (map (λ i. count_in (find_at i)) (below (suc n))) ≡ total (map (λ i. count_in (find_at i)) (below n)) + (c + 0) =
        total_last (λ i. count_in (find_at i)) n ∙ ap (λ f. total (map (λ i. count_in (find_at i)) (below n)) + count_in f) e ∙ omega arith in
        let steps : total (map (λ i. steps_in (find_at i)) (below (suc n))) ≡ total (map (λ i. steps_in (find_at i)) (below n)) + (s + 0) =
        total_last (λ i. steps_in (find_at i)) n ∙ ap (λ f. total (map (λ i. steps_in (find_at i)) (below n)) + steps_in f) e ∙ omega arith in
        let records : gathered (λ i. bytes_in (find_at i)) (below (suc n)) ≡ gathered (λ i. bytes_in (find_at i)) (below n) ++ (rs ++ []) =
        gathered_last (λ i. bytes_in (find_at i)) n ∙ ap (λ f. gathered (λ i. bytes_in (find_at i)) (below n) ++ bytes_in f) e
        ∙ ap (λ r. gathered (λ i. bytes_in (find_at i)) (below n) ++ r) (sym (append-nil rs)) in
        record {
          each = λ j h. ⊎_elim (λ q. subst (λ i. IsFound (find_at i)) (sym q) (subst IsFound (sym e) refl)) (λ d. a.each j (omega (arith, d))) (same? j n);
          joins = join_last n ∙ rw (a.joins, e, counts, records, steps);
        }

    -- The first slot that is stopped decides; if none is, their findings are joined.
    pub join_cases : (n : ℕ) → FirstStops n ⊎ AllFound n
    unfolding join below total gathered
    join_cases zero = inr (record { each = λ j h. absurd (omega arith); joins = refl })
    join_cases (suc n) = ⊎_elim (λ s. inl (still_stops n s)) (λ a. go a (find_at n) refl) (join_cases n)
      where
        go : AllFound n → (f : Findings) → find_at n ≡ f → FirstStops (suc n) ⊎ AllFound (suc n)
        go a (stopped m p) e = inl (next_stops n a m p e)
        go a (found c rs s) e = inr (next_found n a c rs s e)
