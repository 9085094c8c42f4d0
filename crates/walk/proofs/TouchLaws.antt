-- What a look at a bit does to the marks, and the looks at one active bit after another.
use mathlib.Core.Path.{◌≡◌, refl, ◌∙◌}
use mathlib.Core.Bool.{true, false}
use mathlib.Core.List.{List}
use Prim.Native.Nat.{ℕ, ◌+◌, ◌*◌, ◌^◌, ◌≤◌, ◌<◌}
use native.Mathlib.Numerals.{add-one}
use lib.Dec.{ltb}
use lib.ListN.{get_or, set}
use borrow.Author.Tests.{eq-eqb, ne_eqb, lt-ltb}
use Rattle.numbers.specs.Bits.{bit_of}
use Rattle.numbers.specs.NextBit.{next_bit, without_next}
use Rattle.numbers.proofs.TakenLaws.{Taken, taken_none, taken_in, taken-set, taken_next, taken_up, taken_all}
use Rattle.graph.specs.Chains.{Graph}
use Rattle.walk.specs.TableGraph.{table_size, child_at, table_graph}
use Rattle.walk.specs.Fold.{or_else, touch_child, touched, touched_to}
use Rattle.walk.proofs.Tables.{child-in, or_else_none, or_else_some}

-- One look at a place of the table.
module _ (ch m : List ℕ) (n k : ℕ) {c : ℕ} (found : c ≡ or_else n (child_at n ch k)) where
  pub outside : n ≤ c → m ≡ touch_child m (child_at n ch k)
  outside l = rw (or_else_none _ found l (child-in n ch k))

  module _ (l : c < n) where
    pub known : (get_or m c 0 ≡ 0 → ⊥) → m ≡ touch_child m (child_at n ch k)
    known z = rw (or_else_some (child_at n ch k) found l) (simp (ne_eqb _ 0 z))

    pub fresh : get_or m c 0 ≡ 0 → set m c 1 ≡ touch_child m (child_at n ch k)
    fresh z = rw (or_else_some (child_at n ch k) found l) (simp (eq-eqb _ 0 z))

-- A bit of k that is not active changes nothing; an active one does what the look at its place of the table does.
module _ (act ch m : List ℕ) (n k b : ℕ) (size : n ≡ table_size act) (kn : k < n) (b64 : b < 64) where
  k_in : ltb k (table_size act) ≡ true
  k_in = rw (← size) (lt-ltb k n kn)

  idle : bit_of 64 (get_or act k 0) b ≡ false → m ≡ touched (table_graph act ch) m k b
  unfolding touched table_graph
  idle e = simp (k_in, e)

  followed : bit_of 64 (get_or act k 0) b ≡ true → touch_child m (child_at n ch (k * 64 + b)) ≡ touched (table_graph act ch) m k b
  unfolding touched table_graph
  followed e = simp (k_in, e, lt-ltb b 64 b64, ← size)

-- One bit more.
touched_more : (g : Graph) (m₀ : List ℕ) {m m' : List ℕ} (k n : ℕ) → m' ≡ touched g m k n → m ≡ touched_to g m₀ k n → m' ≡ touched_to g m₀ k (n + 1)
unfolding touched_to
touched_more g m₀ k n e d = rw (add-one n, ← d) e

-- The active bits of k one after another: the children of those that were taken have been looked at, and `rest` has the others.
abbrev pub Touched : List ℕ → List ℕ → List ℕ → ℕ → List ℕ → ℕ → Type 0
Touched act ch m₀ k m rest = Taken 64 (get_or act k 0) rest (λ b. m ≡ touched_to (table_graph act ch) m₀ k b)

module _ (act ch m₀ : List ℕ) (n k : ℕ) (size : n ≡ table_size act) (kn : k < n) where
  skip : (m : List ℕ) (b : ℕ) → b < 64 → bit_of 64 (get_or act k 0) b ≡ false → m ≡ touched_to (table_graph act ch) m₀ k b → m ≡ touched_to (table_graph act ch) m₀ k (b + 1)
  skip m b h e d = touched_more (table_graph act ch) m₀ k b (idle act ch m n k b size kn h e) d

  pub touched_none : get_or act k 0 < 2 ^ 64 → Touched act ch m₀ k m₀ (get_or act k 0)
  unfolding touched_to
  touched_none h = taken_none 64 _ _ h refl

  module _ {m : List ℕ} {rest : ℕ} (t : Touched act ch m₀ k m rest) where
    pub touched_next : (rest ≡ 0 → ⊥) → {c : ℕ} → c ≡ next_bit 64 rest → {m' : List ℕ} → m' ≡ touch_child m (child_at n ch (k * 64 + c)) → {r : ℕ} → r ≡ without_next 64 rest
        → Touched act ch m₀ k m' r
    touched_next some {c} e d q =
        taken_next t some e q
        (touched_more (table_graph act ch) m₀ k c (d ∙ followed act ch m n k c size kn (taken_in t some e) (taken-set t some e)) (taken_up t (skip m) some e))

    pub touched_all : rest ≡ 0 → m ≡ touched_to (table_graph act ch) m₀ k 64
    touched_all e = taken_all t (skip m) e
