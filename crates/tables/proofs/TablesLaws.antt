-- The laws of tables of numbers.
use Rattle.std.specs.Prelude.{Bool, true, false, cond, not, Option, Some, None}
use Rattle.std.specs.List.{position_or_len, position as first_position}
use Rattle.std.specs.Option.{unwrap_or}
use Prim.Native.Nat.{ℕ, zero, suc, ◌+◌, ◌≤◌, ◌<◌}
use mathlib.Core.List.{List, [], ◌∷◌, ◌++◌}
use mathlib.Core.Path.{◌≡◌, refl, sym, ap, ◌∙◌}
use native.Mathlib.Omega.{arith}
use lib.Dec.{eqb, ltb}
use lib.ListN.{length, take, drop, get_or, set, length-set}
use lib.Seq.{take-append_seam, set_out}
use borrow.Author.Tests.{eq-eqb, ne_eqb, ltb-false}
use Rattle.format.specs.Lookup.{position}
use Rattle.tables.specs.Tables.{written}

-- A search for a number.

pub position_here : (t : List ℕ) (x i : ℕ) → i < length t → ((k : ℕ) → k < i → get_or t k 0 ≡ x → ⊥) → get_or t i 0 ≡ x
    → i ≡ position (λ y. eqb y x) t
unfolding position
position_here [] x i h b e = absurd (omega arith)
position_here (y ∷ t) x zero h b e = simp (eq-eqb y x e)
position_here (y ∷ t) x (suc i) h b e =
    simp (ne_eqb y x (b 0 (omega arith))) (ap suc (position_here t x i (omega arith) (λ k l. b (suc k) (omega arith)) e))

pub position_none : (t : List ℕ) (x : ℕ) → ((k : ℕ) → k < length t → get_or t k 0 ≡ x → ⊥) → length t ≡ position (λ y. eqb y x) t
unfolding position
position_none [] x b = refl
position_none (y ∷ t) x b =
    simp (ne_eqb y x (b 0 (omega arith))) (ap suc (position_none t x (λ k l. b (suc k) (omega arith))))

-- The library's search.

same_position : (p : ℕ → Bool) (t : List ℕ) → position_or_len p t ≡ position p t
unfolding position
same_position p [] = refl
same_position p (y ∷ t) = go (p y) (same_position p t)
  where
    go : (b : Bool) {m n : ℕ} → m ≡ n → cond (not b) (1 + m) 0 ≡ cond b 0 (suc n)
    go true e = refl
    go false e = omega arith

position_most : (p : ℕ → Bool) (t : List ℕ) → position p t ≤ length t
unfolding position
position_most p [] = omega arith
position_most p (y ∷ t) = go (p y) (position_most p t)
  where
    go : (b : Bool) {m n : ℕ} → m ≤ n → cond b 0 (suc m) ≤ suc n
    go true h = omega arith
    go false h = omega arith

-- The position that was found, or else the length.
pub position_or : (p : ℕ → Bool) (t : List ℕ) {r : Option ℕ} → r ≡ first_position p t → unwrap_or r (length t) ≡ position p t
position_or p t e = rw (e, same_position p t) (go (ltb (position p t) (length t)) refl)
  where
    go : (b : Bool) → ltb (position p t) (length t) ≡ b → unwrap_or (cond b (Some (position p t)) None) (length t) ≡ position p t
    go true e = refl
    go false e = omega (arith, ltb-false _ _ e, position_most p t)

-- A place that a table has not.
pub set_beyond : (t : List ℕ) (k x : ℕ) → length t ≤ k → t ≡ set t k x
set_beyond t k x h = sym (set_out t k x h)

-- Writing.

pub written-append : (t : List ℕ) (k : ℕ) (xs ys : List ℕ) → written t k (xs ++ ys) ≡ written (written t k xs) (k + length xs) ys
unfolding written
written-append t k [] ys = ap (λ j. written t j ys) (let e : k ≡ k + 0 = omega arith in e)
written-append t k (x ∷ xs) ys =
    written-append (set t k x) (suc k) xs ys
    ∙ ap (λ j. written (written (set t k x) (suc k) xs) j ys) (let e : suc k + length xs ≡ k + suc (length xs) = omega arith in e)

pub written-length : (t : List ℕ) (k : ℕ) (xs : List ℕ) → length (written t k xs) ≡ length t
unfolding written
written-length t k [] = refl
written-length t k (x ∷ xs) = written-length (set t k x) (suc k) xs ∙ length-set t k x

-- Writing behind the first number.
written_behind : (y : ℕ) (t : List ℕ) (k : ℕ) (xs : List ℕ) → written (y ∷ t) (suc k) xs ≡ y ∷ written t k xs
unfolding written
written_behind y t k [] = refl
written_behind y t k (x ∷ xs) = written_behind y (set t k x) (suc k) xs

-- A table that has room holds what was written from its front on, and then its own numbers.
pub written_front : (t xs : List ℕ) → length xs ≤ length t → written t 0 xs ≡ xs ++ drop (length xs) t
unfolding written
written_front t [] h = refl
written_front [] (x ∷ xs) h = absurd (omega arith)
written_front (y ∷ t) (x ∷ xs) h = written_behind x t 0 xs ∙ ap (λ u. x ∷ u) (written_front t xs (omega arith))

pub written-take : (t xs : List ℕ) (n : ℕ) → n ≡ length xs → length xs ≤ length t → take n (written t 0 xs) ≡ xs
written-take t xs n e h = rw (e, written_front t xs h) (take-append_seam xs (drop (length xs) t))
