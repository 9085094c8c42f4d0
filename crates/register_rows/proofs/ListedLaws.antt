-- A reading with a list that may be too short: one that is told had room, and one that is not told is none that was read with room.
use Prim.Native.Nat.{ℕ, ◌≤◌, ◌<◌}
use mathlib.Core.Bool.{Bool, true, false, cond}
use mathlib.Core.Path.{◌≡◌, refl, ◌∙◌, ap}
use lib.Dec.{leb}
use borrow.Author.Tests.{leb-true, leb-false, le-leb, lt-leb}
use Rattle.numbers.proofs.Bools.{clash}
use Rattle.format.specs.Parsed.{Parsed, done, refused, making}
use Rattle.register_rows.specs.Told.{is_told}

-- `n` elements, and a list with room for `k`.
module _ (n k : ℕ) where
  pub with_room : {A : Type 0} (x y : A) {z : A} → n ≤ k → z ≡ x → z ≡ cond (leb n k) x y
  with_room x y h e = e ∙ rw (le-leb n k h)

  pub without_room : {A : Type 0} (x y : A) → k < n → y ≡ cond (leb n k) x y
  without_room x y h = rw (lt-leb n k h)

  pub told_room : (q : Parsed ℕ) {x : Parsed ℕ} → x ≡ cond (leb n k) q (refused 43 0) → is_told x ≡ true → (n ≤ k) × (x ≡ q)
  unfolding is_told
  told_room q {x} e h = go (leb n k) refl e
    where
      go : (b : Bool) → leb n k ≡ b → x ≡ cond b q (refused 43 0) → (n ≤ k) × (x ≡ q)
      go true t e = (leb-true n k t, e)
      go false t e = clash h (ap is_told e)

  pub untold_over : {A : Type 0} (f : A → ℕ) (p : Parsed A) {x : Parsed ℕ} {a : A} {m : ℕ} → x ≡ cond (leb n k) (making f p) (refused 43 0) → is_told x ≡ false → p ≡ done a m → k < n
  unfolding is_told making
  untold_over f p {x} e h d = go (leb n k) refl e
    where
      go : (b : Bool) → leb n k ≡ b → x ≡ cond b (making f p) (refused 43 0) → k < n
      go true t e = clash (ap is_told (e ∙ ap (making f) d)) h
      go false t e = leb-false n k t
