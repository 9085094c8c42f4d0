-- The fold over the bits of an instance is, mark by mark, the table of `mark_after`.
use mathlib.Core.Path.{◌≡◌, refl, sym, ap, ◌∙◌}
use mathlib.Core.Bool.{Bool, true, false, cond, ◌&&◌, ◌||◌}
use mathlib.Core.Option.{Option, none, some}
use mathlib.Core.List.{List}
use Prim.Native.Nat.{ℕ, zero, suc, ◌≤◌, ◌<◌}
use native.Mathlib.Omega.{arith}
use lib.Dec.{eqb}
use lib.ListN.{length, get_or, set, length-set}
use lib.Seq.{get_or-set_same, get_or-set_other, ext_get_or}
use borrow.Author.Tests.{eqb-true, eqb-false, lt-ltb, le-ltb}
use Rattle.graph.specs.Below.{any}
use Rattle.graph.specs.Chains.{Graph, linked, names}
use Rattle.walk.specs.declared.Walk.{Walk}
use Rattle.walk.specs.TableGraph.{table_size, table_graph}
use Rattle.walk.specs.Fold.{touched, touched_to, touch_child}
use Rattle.walk.specs.Marks.{mark_after, tabulate, stepped, waits, waiting_words, state_of, step_walk, first_waiting}

pub length_tabulate : (n : ℕ) (f : ℕ → ℕ) → length (tabulate n f) ≡ n
unfolding tabulate
length_tabulate zero f = refl
length_tabulate (suc n) f = ap suc (length_tabulate n (λ i. f (suc i)))

pub get_d_tabulate : (n : ℕ) (f : ℕ → ℕ) (j : ℕ) → j < n → get_or (tabulate n f) j 0 ≡ f j
unfolding tabulate
get_d_tabulate zero f j h = absurd (omega arith)
get_d_tabulate (suc n) f zero h = refl
get_d_tabulate (suc n) f (suc j) h = get_d_tabulate n (λ i. f (suc i)) j (omega arith)

length_child : (m : List ℕ) (o : Option ℕ) → length (touch_child m o) ≡ length m
length_child m none = refl
length_child m (some c) = go (eqb (get_or m c 0) 0)
  where
    go : (t : Bool) → length (cond t (set m c 1) m) ≡ length m
    go true = length-set m c 1
    go false = refl

pub length_touched : (g : Graph) (m : List ℕ) (k b : ℕ) → length (touched g m k b) ≡ length m
unfolding touched
length_touched g m k b = go (g.active k b)
  where
    go : (t : Bool) → length (cond t (touch_child m (g.child k b)) m) ≡ length m
    go true = length_child m (g.child k b)
    go false = refl

pub length-touched_to : (g : Graph) (m : List ℕ) (k n : ℕ) → length (touched_to g m k n) ≡ length m
unfolding touched_to
length-touched_to g m k zero = refl
length-touched_to g m k (suc n) = length_touched g (touched_to g m k n) k n ∙ length-touched_to g m k n

-- the mark of j after one bit
child-at : (m : List ℕ) (o : Option ℕ) (j : ℕ) → j < length m
    → get_or (touch_child m o) j 0 ≡ cond (names o j && eqb (get_or m j 0) 0) 1 (get_or m j 0)
child-at m none j h = refl
child-at m (some c) j h = go (eqb c j) refl
  where
    same : (t : Bool) → get_or (cond t (set m j 1) m) j 0 ≡ cond t 1 (get_or m j 0)
    same true = get_or-set_same m j 1 0 h
    same false = refl

    other : (t : Bool) → (j ≡ c → ⊥) → get_or (cond t (set m c 1) m) j 0 ≡ get_or m j 0
    other true n = get_or-set_other m c j 1 0 n
    other false n = refl

    go : (t : Bool) → eqb c j ≡ t → get_or (cond (eqb (get_or m c 0) 0) (set m c 1) m) j 0 ≡ cond (t && eqb (get_or m j 0) 0) 1 (get_or m j 0)
    go true e = rw (eqb-true c j e) (same (eqb (get_or m j 0) 0))
    go false e = other (eqb (get_or m c 0) 0) (λ d. eqb-false c j e (sym d))

touched_at : (g : Graph) (m : List ℕ) (k b j : ℕ) → j < length m
    → get_or (touched g m k b) j 0 ≡ cond ((g.active k b && names (g.child k b) j) && eqb (get_or m j 0) 0) 1 (get_or m j 0)
unfolding touched
touched_at g m k b j h = go (g.active k b)
  where
    go : (t : Bool) → get_or (cond t (touch_child m (g.child k b)) m) j 0 ≡ cond ((t && names (g.child k b) j) && eqb (get_or m j 0) 0) 1 (get_or m j 0)
    go true = child-at m (g.child k b) j h
    go false = refl

combine : (q p l : Bool) (x : ℕ)
    → cond (l && eqb (cond q 2 (cond (p && eqb x 0) 1 x)) 0) 1 (cond q 2 (cond (p && eqb x 0) 1 x)) ≡ cond q 2 (cond ((p || l) && eqb x 0) 1 x)
combine true p true x = refl
combine true p false x = refl
combine false false true x = refl
combine false false false x = refl
combine false true false x = refl
combine false true true x = go (eqb x 0) refl
  where
    go : (t : Bool) → eqb x 0 ≡ t → cond (eqb (cond t 1 x) 0) 1 (cond t 1 x) ≡ cond t 1 x
    go true e = refl
    go false e = rw e

-- Some of the first n bits of k is active and has the child j.
abbrev linked_in : Graph → ℕ → ℕ → ℕ → Bool
linked_in g k j n = any n (λ b. g.active k b && names (g.child k b) j)

abbrev mark_in : Graph → List ℕ → ℕ → ℕ → ℕ → ℕ
mark_in g m k n j = cond (eqb j k) 2 (cond (linked_in g k j n && eqb (get_or m j 0) 0) 1 (get_or m j 0))

touched_to_at : (g : Graph) (m : List ℕ) (k : ℕ) → k < length m → (n j : ℕ) → j < length m
    → get_or (touched_to g (set m k 2) k n) j 0 ≡ mark_in g m k n j
unfolding touched_to any
touched_to_at g m k l zero j h = go (eqb j k) refl
  where
    go : (t : Bool) → eqb j k ≡ t → get_or (set m k 2) j 0 ≡ cond t 2 (get_or m j 0)
    go true e = rw (eqb-true j k e) (get_or-set_same m k 2 0 l)
    go false e = get_or-set_other m k j 2 0 (eqb-false j k e)
touched_to_at g m k l (suc n) j h =
    touched_at g (touched_to g (set m k 2) k n) k n j (rw (length-touched_to g (set m k 2) k n, length-set) h)
    ∙ rw (touched_to_at g m k l n j h) (combine (eqb j k) (linked_in g k j n) (g.active k n && names (g.child k n) j) (get_or m j 0))

touched_to_all : (g : Graph) (m : List ℕ) (k : ℕ) → k < length m → touched_to g (set m k 2) k 64 ≡ tabulate (length m) (mark_after g m k)
unfolding mark_after linked
touched_to_all g m k l =
    let e : length (touched_to g (set m k 2) k 64) ≡ length m = length-touched_to g (set m k 2) k 64 ∙ length-set m k 2 in
    ext_get_or 0 _ _ (e ∙ sym (length_tabulate _ _))
    (λ j h. let h' : j < length m = omega arith in touched_to_at g m k l 64 j h' ∙ sym (get_d_tabulate _ _ j h'))

pub same_state : {m ws : List ℕ} → ws ≡ waiting_words m → ◌≡◌ {A = Walk} (record { marks = m; waiting = ws }) (state_of m)
unfolding state_of
same_state {m} e = ap (λ x. record { marks = m; waiting = x }) e

pub state_marks : {m : List ℕ} {w : Walk} → w ≡ state_of m → w.marks ≡ m
unfolding state_of
state_marks e = ap (λ x. x.marks) e

pub state_words : (m : List ℕ) {w : Walk} → w ≡ state_of m → w.waiting ≡ waiting_words w.marks
unfolding state_of
state_words m e = ap (λ x. x.waiting) e ∙ ap waiting_words (sym (state_marks e))

-- A step, at the first waiting instance k.
module _ (act ch : List ℕ) (w : Walk) (k n : ℕ) (e : k ≡ first_waiting w.marks) (d : n ≡ table_size act) where
  waits-not : n ≤ k → waits (table_graph act ch) w.marks ≡ false
  unfolding waits table_graph
  waits-not l = rw (← e, ← d) (le-ltb _ _ l)

  waits_one : k < n → waits (table_graph act ch) w.marks ≡ true
  unfolding waits table_graph
  waits_one l = rw (← e, ← d) (lt-ltb _ _ l)

  pub step-not : w.waiting ≡ waiting_words w.marks → n ≤ k → w ≡ step_walk (table_graph act ch) w
  unfolding step_walk stepped state_of
  step-not q l = rw (waits-not l) (ap (λ x. record { marks = w.marks; waiting = x }) q)

  pub step_one : {m' ws : List ℕ} → k < n → k < length w.marks → m' ≡ touched_to (table_graph act ch) (set w.marks k 2) k 64 → ws ≡ waiting_words m'
      → ◌≡◌ {A = Walk} (record { marks = m'; waiting = ws }) (step_walk (table_graph act ch) w)
  unfolding step_walk stepped
  step_one {m'} l h q r = same_state r ∙ ap state_of (q ∙ touched_to_all (table_graph act ch) w.marks k h ∙ rw (waits_one l, ← e))
