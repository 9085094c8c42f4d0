-- The walk's invariant, that a step keeps it, and what it says at the end.
use mathlib.Core.Path.{◌≡◌, refl, sym, ◌∙◌, subst}
use mathlib.Core.Bool.{true, false, cond, ◌&&◌}
use mathlib.Core.Logic.{◌⊎◌, inl, inr, ⊎_elim, ◌↔◌}
use mathlib.Core.List.{List}
use Prim.Native.Nat.{ℕ, ◌+◌, ◌≤◌, ◌<◌}
use native.Mathlib.Omega.{arith}
use lib.Dec.{eqb, ltb}
use lib.ListN.{length, get_or, set, replicate, length-set, length-replicate, get_or-replicate, get_or-eq_default}
use lib.Seq.{ext_get_or, get_or-set_same, get_or-set_other}
use borrow.Author.Tests.{eq-eqb, ne_eqb, eqb-true, eqb-false, ltb-true, ltb-false, lt-ltb, le-ltb}
use Rattle.numbers.proofs.Bools.{either, clash, and_left, and_right, and_both, same?}
use Rattle.graph.specs.Below.{count}
use Rattle.graph.specs.Paths.{Reached, here, next}
use Rattle.graph.specs.Chains.{Graph, Sound, linked, reached_from, reached_count}
use Rattle.graph.proofs.BelowLaws.{count_one, count_same, count-le, count-zero}
use Rattle.graph.proofs.ChainsLaws.{linked_inside, reached-in}
use Rattle.walk.specs.declared.Walked.{Walked}
use Rattle.walk.specs.Marks.{mark_count, first_waiting, mark_after, tabulate, stepped, waits, started, finished}
use Rattle.walk.proofs.First.{first_waits, first-le}
use Rattle.walk.proofs.Step.{length_tabulate, get_d_tabulate}

-- A node instance is reached from the root.
abbrev pub R : Graph → ℕ → ℕ → Type 0
R g root j = Reached (λ i. eqb i root) (linked g) j

-- What holds of the root, and of each child of what it holds of, holds of all that is reached.
reached_fold : (g : Graph) (root : ℕ) (P : ℕ → Type 0) → P root → ((i j : ℕ) → P i → linked g i j ≡ true → P j) → {i : ℕ} → R g root i → P i
reached_fold g root P p f (here {j = j} e) = subst P (sym (eqb-true j root e)) p
reached_fold g root P p f (next {i = i} {j = j} r e) = f i j (reached_fold g root P p f r) e

pub reached_inside : (g : Graph) → Sound g → (root : ℕ) → root < g.size → {i : ℕ} → R g root i → i < g.size
reached_inside g s root h = reached_fold g root (λ i. i < g.size) h (λ i j q l. (linked_inside g s root i j l).1)

pub record Walking (g : Graph) (root : ℕ) (m : List ℕ) (s : ℕ) : Type 0 where
  pub sized : length m ≡ mark_count
  pub room : g.size ≤ length m
  pub begun : get_or m root 0 ≡ 0 → ⊥
  pub closed : (i j : ℕ) → get_or m i 0 ≡ 2 → linked g i j ≡ true → get_or m j 0 ≡ 0 → ⊥
  pub sound : (i : ℕ) → (get_or m i 0 ≡ 0 → ⊥) → R g root i
  pub small : (i : ℕ) → get_or m i 0 ≤ 2
  pub counted : s ≡ count g.size (λ i. eqb (get_or m i 0) 2)

-- the mark v of j after a step at k, by cases
data After (g : Graph) (m : List ℕ) (k j v : ℕ) : Type 0 where
  done : j ≡ k → v ≡ 2 → After g m k j v
  fresh : (j ≡ k → ⊥) → linked g k j ≡ true → get_or m j 0 ≡ 0 → v ≡ 1 → After g m k j v
  kept : (j ≡ k → ⊥) → (linked g k j ≡ true → get_or m j 0 ≡ 0 → ⊥) → v ≡ get_or m j 0 → After g m k j v

after : (g : Graph) (m : List ℕ) (k j : ℕ) → After g m k j (mark_after g m k j)
unfolding mark_after
after g m k j =
    ⊎_elim (λ e. done (eqb-true j k e) (rw e))
    (λ e. ⊎_elim
    (λ d. fresh (eqb-false j k e) (and_left _ _ d) (eqb-true _ 0 (and_right (linked g k j) _ d)) (rw (e, d)))
    (λ d. kept (eqb-false j k e) (λ l z. clash (and_both l (eq-eqb _ 0 z)) d) (rw (e, d)))
    (either (linked g k j && eqb (get_or m j 0) 0)))
    (either (eqb j k))

module _ (g : Graph) (sound-graph : Sound g) (root : ℕ) (root_in : root < g.size) (m : List ℕ) (s : ℕ) (w : Walking g root m s) where
  module _ (some : waits g m ≡ true) where
    k_in : first_waiting m < g.size
    unfolding waits
    k_in = ltb-true _ _ some

    k_waits : get_or m (first_waiting m) 0 ≡ 1
    k_waits = first_waits m (let h = k_in in let r = w.room in omega arith)

    length_stepped : length (stepped g m) ≡ length m
    unfolding stepped
    length_stepped = rw some (length_tabulate _ _)

    at : (j : ℕ) → After g m (first_waiting m) j (get_or (stepped g m) j 0)
    unfolding stepped
    at j =
        ⊎_elim
        (λ h. rw (some, get_d_tabulate (length m) (mark_after g m (first_waiting m)) j (ltb-true _ _ h)) (after g m (first_waiting m) j))
        (λ h. let l : length m ≤ j = ltb-false _ _ h in
        let d : get_or m j 0 ≡ 0 = get_or-eq_default m 0 l in
        kept (λ e. omega (arith, k_in, w.room)) (λ q z. omega (arith, (linked_inside g sound-graph root _ j q).1, w.room))
        (get_or-eq_default (stepped g m) 0 (rw length_stepped l) ∙ sym d))
        (either (ltb j (length m)))

    begun' : get_or (stepped g m) root 0 ≡ 0 → ⊥
    begun' = go (at root)
      where
        go : {v : ℕ} → After g m (first_waiting m) root v → v ≡ 0 → ⊥
        go (done e d) z = omega arith
        go (fresh n l x d) z = omega arith
        go (kept n f d) z = w.begun (sym d ∙ z)

    closed' : (i j : ℕ) → get_or (stepped g m) i 0 ≡ 2 → linked g i j ≡ true → get_or (stepped g m) j 0 ≡ 0 → ⊥
    closed' i j = go (at i) (at j)
      where
        go : {u v : ℕ} → After g m (first_waiting m) i u → After g m (first_waiting m) j v → u ≡ 2 → linked g i j ≡ true → v ≡ 0 → ⊥
        go (done e d) (done e' d') p l z = omega arith
        go (done e d) (fresh n' l' x' d') p l z = omega arith
        go (done e d) (kept n' f' d') p l z = f' (subst (λ x. linked g x j ≡ true) e l) (sym d' ∙ z)
        go (fresh n q x d) b p l z = omega arith
        go (kept n f d) (done e' d') p l z = omega arith
        go (kept n f d) (fresh n' l' x' d') p l z = omega arith
        go (kept n f d) (kept n' f' d') p l z = w.closed i j (sym d ∙ p) l (sym d' ∙ z)

    k_reached : R g root (first_waiting m)
    k_reached = w.sound (first_waiting m) (λ z. let h = k_waits in omega arith)

    sound' : (i : ℕ) → (get_or (stepped g m) i 0 ≡ 0 → ⊥) → R g root i
    sound' i = go (at i)
      where
        go : {v : ℕ} → After g m (first_waiting m) i v → (v ≡ 0 → ⊥) → R g root i
        go (done e d) z = subst (λ x. R g root x) (sym e) k_reached
        go (fresh n l x d) z = next k_reached l
        go (kept n f d) z = w.sound i (λ y. z (d ∙ y))

    small' : (i : ℕ) → get_or (stepped g m) i 0 ≤ 2
    small' i = go (at i)
      where
        go : {v : ℕ} → After g m (first_waiting m) i v → v ≤ 2
        go (done e d) = omega arith
        go (fresh n l x d) = omega arith
        go (kept n f d) = let h = w.small i in omega arith

    -- A step leaves what is done of all but the taken node instance.
    pub walked_others : (i : ℕ) → (i ≡ first_waiting m → ⊥) → eqb (get_or (stepped g m) i 0) 2 ≡ eqb (get_or m i 0) 2
    walked_others i = go (at i)
      where
        go : {v : ℕ} → After g m (first_waiting m) i v → (i ≡ first_waiting m → ⊥) → eqb v 2 ≡ eqb (get_or m i 0) 2
        go (done e d) z = absurd (z e)
        go (fresh n l x d) z = rw (d, x)
        go (kept n f d) z = rw d

    k_done : get_or (stepped g m) (first_waiting m) 0 ≡ 2
    k_done = go (at (first_waiting m))
      where
        go : {v : ℕ} → After g m (first_waiting m) (first_waiting m) v → v ≡ 2
        go (done e d) = d
        go (fresh n l x d) = absurd (n refl)
        go (kept n f d) = absurd (n refl)

    counted' : s + 1 ≡ count g.size (λ i. eqb (get_or (stepped g m) i 0) 2)
    counted' =
        let c = count_one g.size (λ i. eqb (get_or m i 0) 2) (λ i. eqb (get_or (stepped g m) i 0) 2) (first_waiting m) k_in
        (rw k_waits) (eq-eqb _ 2 k_done) (λ i n h. walked_others i n) in
        omega (arith, c, w.counted)

    pub walked_step : Walking g root (stepped g m) (s + 1)
    walked_step =
        record { sized = length_stepped ∙ w.sized; room = omega (arith, length_stepped, w.room); begun = begun'; closed = closed'; sound = sound'; small = small'; counted = counted' }

    -- fewer than all are done
    pub walked_less : s < g.size
    walked_less = omega (arith, counted', count-le g.size (λ i. eqb (get_or (stepped g m) i 0) 2))

  module _ (none : waits g m ≡ false) where
    unwaiting : (i : ℕ) → get_or m i 0 ≡ 1 → ⊥
    unfolding waits
    unwaiting i e =
        let h = reached_inside g sound-graph root root_in (w.sound i (λ z. omega arith)) in
        let l : i < length m = omega (arith, h, w.room) in
        omega (arith, first-le m i l e, ltb-false (first_waiting m) g.size none)

    pub done_law : (i : ℕ) → (get_or m i 0 ≡ 2) ↔ R g root i
    done_law i = (
      (λ e. w.sound i (λ z. omega arith)),
      reached_fold g root (λ j. get_or m j 0 ≡ 2) (two root w.begun) (λ a b e l. two b (w.closed a b e l)),
    )
      where
        two : (j : ℕ) → (get_or m j 0 ≡ 0 → ⊥) → get_or m j 0 ≡ 2
        two j n =
            let h = w.small j in
            ⊎_elim (λ e. absurd (unwaiting j e)) (λ e. ⊎_elim (λ d. absurd (n d)) (λ d. omega arith) (same? (get_or m j 0) 0)) (same? (get_or m j 0) 1)

    root_reached : (i : ℕ) → i ≡ root → reached_from g root i ≡ true
    root_reached i e = (reached-in g sound-graph root i).1 (here (eq-eqb i root e))

    yes_at : (i : ℕ) → reached_from g root i ≡ true → get_or m i 0 ≡ 2
    yes_at i e = (done_law i).1 ((reached-in g sound-graph root i).0 e)

    no_at : (i : ℕ) → reached_from g root i ≡ false → get_or m i 0 ≡ 0
    no_at i e =
        ⊎_elim (λ d. d) (λ d. clash ((reached-in g sound-graph root i).1 (w.sound i d)) e) (same? (get_or m i 0) 0)

    pub walked_end : m ≡ (finished g root).marks
    unfolding finished
    walked_end =
        ext_get_or 0 _ _ (w.sized ∙ sym (length_tabulate _ _))
        (λ i h. let h' : i < mark_count = omega (arith, w.sized) in
        ⊎_elim (λ e. yes_at i e ∙ rw (lt-ltb _ _ root_in, e))
        (λ e. no_at i e ∙ rw (lt-ltb _ _ root_in, e, ne_eqb i root (λ d. clash (root_reached i d) e)))
        (either (reached_from g root i)) ∙ sym (get_d_tabulate _ _ i h'))

    pub walked_steps : s ≡ (finished g root).steps
    unfolding finished reached_count
    walked_steps =
        rw (lt-ltb _ _ root_in)
        (w.counted
        ∙ count_same g.size (reached_from g root) (λ i. eqb (get_or m i 0) 2)
        (λ i h. ⊎_elim (λ e. rw (yes_at i e, e)) (λ e. rw (no_at i e, e)) (either (reached_from g root i))))

pub started_at : (root i : ℕ) → i < mark_count → get_or (started root) i 0 ≡ cond (eqb i root) 1 0
unfolding started
started_at root i h = get_d_tabulate mark_count _ i h

pub length_started : (root : ℕ) → length (started root) ≡ mark_count
unfolding started
length_started root = length_tabulate mark_count _

-- The marks that the code makes, for any number of marks.
abbrev started_in : ℕ → ℕ → List ℕ
started_in n root = tabulate n (λ i. cond (eqb i root) 1 0)

made_in : (n root : ℕ) → root < n → set (replicate n 0) root 1 ≡ started_in n root
made_in n root h =
    let e : length (set (replicate {A = ℕ} n 0) root 1) ≡ n = length-set (replicate n 0) root 1 ∙ length-replicate {A = ℕ} n 0 in
    ext_get_or 0 _ _ (e ∙ sym (length_tabulate n _))
    (λ i l. ⊎_elim
    (λ d. rw d (get_or-set_same (replicate n 0) root 1 0 (rw length-replicate h) ∙ sym (get_d_tabulate n _ root h ∙ rw (eq-eqb root root refl))))
    (λ d. let k : i < n = omega arith in
    get_or-set_other (replicate n 0) root i 1 0 d ∙ get_or-replicate n i 0 0 k ∙ sym (get_d_tabulate n _ i k ∙ rw (ne_eqb i root d)))
    (same? i root))

none-in : (n root : ℕ) → n ≤ root → replicate n 0 ≡ started_in n root
none-in n root h =
    ext_get_or 0 _ _ (length-replicate {A = ℕ} n 0 ∙ sym (length_tabulate n _))
    (λ i l. let k : i < n = omega (arith, length-replicate {A = ℕ} n 0) in
    get_or-replicate n i 0 0 k ∙ sym (get_d_tabulate n _ i k ∙ rw (ne_eqb i root (λ d. omega arith))))

pub started_made : (root : ℕ) → root < mark_count → set (replicate mark_count 0) root 1 ≡ started root
unfolding started
started_made root h = made_in mark_count root h

pub started_none : (root : ℕ) → mark_count ≤ root → replicate mark_count 0 ≡ started root
unfolding started
started_none root h = none-in mark_count root h

module _ (g : Graph) (root : ℕ) (h : root < g.size) (few : g.size ≤ mark_count) where
  begin : (i : ℕ) → ((i ≡ root) × (get_or (started root) i 0 ≡ 1)) ⊎ (get_or (started root) i 0 ≡ 0)
  begin i =
      ⊎_elim
      (λ l. let e = started_at root i (ltb-true _ _ l) in
      ⊎_elim (λ d. inl (d, e ∙ rw (eq-eqb i root d))) (λ d. inr (e ∙ rw (ne_eqb i root d))) (same? i root))
      (λ l. inr (get_or-eq_default (started root) 0 (rw length_started (ltb-false _ _ l))))
      (either (ltb i mark_count))

  pub walked_start : Walking g root (started root) 0
  walked_start =
      record {
        sized = length_started root;
        room = omega (arith, length_started root);
        begun = λ z. let e = rw (eq-eqb root root refl) at (started_at root root (omega arith)) in omega arith;
        closed = λ i j e q z. ⊎_elim (λ d. omega (arith, d.1)) (λ d. omega arith) (begin i);
        sound = λ i z. ⊎_elim (λ d. subst (λ x. R g root x) (sym d.0) (here (eq-eqb root root refl))) (λ d. absurd (z d)) (begin i);
        small = λ i. ⊎_elim (λ d. omega (arith, d.1)) (λ d. omega arith) (begin i);
        counted = sym (count-zero g.size _ (λ i _. ⊎_elim (λ d. rw d.1) (λ d. rw d) (begin i)));
      }

-- A walk from a root of the graph takes as many steps as node instances are reached.
pub steps_reached : (g : Graph) (root : ℕ) → root < g.size → (finished g root).steps ≡ reached_count g root
unfolding finished
steps_reached g root h = rw (lt-ltb _ _ h)

-- A walk from a root that the graph does not have takes no step.
pub finished_nowhere : (g : Graph) (root : ℕ) → g.size ≤ root → started root ≡ (finished g root).marks
unfolding finished started
finished_nowhere g root l = rw (le-ltb _ _ l)

pub steps_nowhere : (g : Graph) (root : ℕ) → g.size ≤ root → 0 ≡ (finished g root).steps
unfolding finished
steps_nowhere g root l = rw (le-ltb _ _ l)

-- Walks of the same marks and steps are the same.
pub same_walked : {m m' : List ℕ} {s s' : ℕ} → m ≡ m' → s ≡ s' → ◌≡◌ {A = Walked} (record { marks = m; steps = s }) (record { marks = m'; steps = s' })
same_walked p q = cc
