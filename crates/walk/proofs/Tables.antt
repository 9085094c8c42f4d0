-- The graph of two tables: its size, the child of a place, and that it is sound.
use mathlib.Core.Path.{◌≡◌, refl, sym, ap, ◌∙◌}
use mathlib.Core.Bool.{Bool, true, false, cond, ◌&&◌}
use mathlib.Core.List.{List}
use mathlib.Core.Logic.{⊎_elim}
use mathlib.Core.Option.{Option, none, some}
use Prim.Native.Nat.{ℕ, ◌+◌, ◌*◌, ◌≤◌, ◌<◌, min}
use native.Mathlib.Omega.{arith}
use lib.Dec.{ltb}
use lib.ListN.{length, get_or}
use borrow.Author.Tests.{lt-ltb, le-ltb, ltb-true, ltb-false}
use Rattle.numbers.proofs.BitsLaws.{bit_out}
use Rattle.numbers.proofs.Bools.{either, clash, and_left, and_right}
use Rattle.graph.specs.Chains.{Sound}
use Rattle.walk.specs.TableGraph.{table_size, child_at, table_graph}
use Rattle.walk.specs.Marks.{mark_count}
use Rattle.walk.specs.Fold.{or_else}

pub size_few : (act : List ℕ) → (table_size act ≤ mark_count) × (table_size act ≤ length act)
unfolding table_size
size_few act = (omega arith, omega arith)

-- The child of a place.

pub child_beyond : (n : ℕ) (ch : List ℕ) (k : ℕ) → length ch ≤ k → n ≡ or_else n (child_at n ch k)
unfolding child_at
child_beyond n ch k h = simp (le-ltb _ _ h)

pub child_least : (n : ℕ) (ch : List ℕ) (k : ℕ) → k < length ch → min n (get_or ch k 0) ≡ or_else n (child_at n ch k)
unfolding child_at
child_least n ch k h = go (ltb (get_or ch k 0) n) refl
  where
    go : (t : Bool) → ltb (get_or ch k 0) n ≡ t → min n (get_or ch k 0) ≡ or_else n (cond (ltb k (length ch) && ltb (get_or ch k 0) n) (some (get_or ch k 0)) none)
    go true e = simp (lt-ltb _ _ h, e) (omega (arith, ltb-true _ _ e))
    go false e = simp (lt-ltb _ _ h, e) (omega (arith, ltb-false _ _ e))

pub child-in : (n : ℕ) (ch : List ℕ) (k c : ℕ) → child_at n ch k ≡ some c → c < n
unfolding child_at
child-in n ch k c = go (ltb k (length ch) && ltb (get_or ch k 0) n) refl
  where
    go : (t : Bool) → ltb k (length ch) && ltb (get_or ch k 0) n ≡ t → cond t (some (get_or ch k 0)) none ≡ some c → c < n
    go true e d =
        let q : get_or ch k 0 ≡ c = cc in
        omega (arith, ltb-true (get_or ch k 0) n (and_right (ltb k (length ch)) _ e))
    go false e d = let z : ◌≡◌ {A = ℕ} 0 1 = cc in absurd (omega arith)

pub or_else_none : {n c : ℕ} (o : Option ℕ) → c ≡ or_else n o → n ≤ c → ((d : ℕ) → o ≡ some d → d < n) → o ≡ none
or_else_none none e l f = refl
or_else_none (some d) e l f = let h = f d refl in absurd (omega arith)

pub or_else_some : {n c : ℕ} (o : Option ℕ) → c ≡ or_else n o → c < n → o ≡ some c
or_else_some none e l = absurd (omega arith)
or_else_some (some d) e l = ap some (sym e)

-- What `child_at` found, by the size of the tables.
module _ (act ch : List ℕ) (n k : ℕ) (size : n ≡ table_size act) {c : ℕ} (found : c ≡ or_else n (child_at n ch k)) where
  pub found_none : n ≤ c → child_at (table_size act) ch k ≡ none
  found_none l = ap (λ x. child_at x ch k) (sym size) ∙ or_else_none _ found l (child-in n ch k)

  pub found_some : c < n → child_at (table_size act) ch k ≡ some c
  found_some l = ap (λ x. child_at x ch k) (sym size) ∙ or_else_some _ found l

-- The graph of two tables is sound.
pub table_sound : (act ch : List ℕ) → Sound (table_graph act ch)
unfolding table_graph
table_sound act ch =
    record {
      instances = λ i b e. ltb-true _ _ (and_left _ _ e);
      bits = λ i b e. ⊎_elim (λ h. ltb-true _ _ h) (λ h. clash (and_right (ltb i (table_size act)) _ e) (bit_out 64 (get_or act i 0) b (ltb-false _ _ h))) (either (ltb b 64));
      children = λ i b j. inside i b j (ltb i (table_size act) && ltb b 64);
    }
  where
    inside : (i b j : ℕ) (t : Bool) → cond t (child_at (table_size act) ch (i * 64 + b)) none ≡ some j → j < table_size act
    inside i b j true e = child-in (table_size act) ch (i * 64 + b) j e
    inside i b j false e = let z : ◌≡◌ {A = ℕ} 0 1 = cc in absurd (omega arith)
