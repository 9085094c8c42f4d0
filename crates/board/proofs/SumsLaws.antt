-- Lengths that add up, and what a board that fits has.
use Prim.Native.Nat.{ℕ, ◌+◌, ◌-◌, ◌≤◌, ◌<◌}
use mathlib.Core.Bool.{Bool, true, false, not}
use mathlib.Core.List.{List}
use mathlib.Core.Path.{◌≡◌, refl, sym, ◌∙◌}
use native.Mathlib.Numerals.{add-one}
use native.Mathlib.Omega.{arith}
use lib.Dec.{eqb, leb}
use lib.ListN.{length, get_or, drop, drop_of_length-le}
use lib.Seq.{drop-cons}
use borrow.Author.Tests.{eqb-true, eq-eqb, ne_eqb, leb-true, le-leb, lt-leb}
use Rattle.limits.specs.Limits.{slots}
use Rattle.numbers.proofs.Bools.{and_left, and_right, same_truth}
use Rattle.board.specs.Board.{Board, total, board_fits}

pub total_next : (lengths : List ℕ) (i : ℕ) → i < length lengths → total (drop i lengths) ≡ get_or lengths i 0 + total (drop (i + 1) lengths)
unfolding total
total_next lengths i h = rw (drop-cons lengths i 0 h, add-one)

pub total_none : (lengths : List ℕ) (i : ℕ) → length lengths ≤ i → total (drop i lengths) ≡ 0
unfolding total
total_none lengths i h = rw (drop_of_length-le lengths h)

pub total_all : (lengths : List ℕ) → total (drop 0 lengths) ≡ total lengths
total_all lengths = refl

-- What is left after the first i lengths were taken away.
module _ (lengths : List ℕ) (lent left i : ℕ) (h : total lengths + left ≡ lent + total (drop i lengths)) where
  pub too_much : i < length lengths → left < get_or lengths i 0 → false ≡ eqb (total lengths) lent
  too_much l m = sym (ne_eqb (total lengths) lent (λ e. absurd (omega (arith, h, e, total_next lengths i l))))

  pub sum_next : i < length lengths → get_or lengths i 0 ≤ left → {rest : ℕ} → rest ≡ left - get_or lengths i 0 → total lengths + rest ≡ lent + total (drop (i + 1) lengths)
  sum_next l m e = omega (arith, h, e, total_next lengths i l)

  pub sum_end : length lengths ≤ i → eqb left 0 ≡ eqb (total lengths) lent
  sum_end l =
      same_truth (eqb left 0) (eqb (total lengths) lent) (λ e. eq-eqb (total lengths) lent (omega (arith, h, total_none lengths i l, eqb-true left 0 e)))
      (λ e. eq-eqb left 0 (omega (arith, h, total_none lengths i l, eqb-true (total lengths) lent e)))

not-true : (t : Bool) → not t ≡ true → t ≡ false
not-true true e = sym e
not-true false e = refl

not-false : (t : Bool) → not t ≡ false → t ≡ true
not-false true e = refl
not-false false e = sym e

-- A board, condition after condition.
module _ (b : Board) where
  pub no_slot : length b.file_lengths < 1 → false ≡ board_fits b
  unfolding board_fits
  no_slot h = rw (lt-leb _ _ h)

  module _ (least : 1 ≤ length b.file_lengths) where
    pub many_slots : 16 < length b.file_lengths → false ≡ board_fits b
    unfolding board_fits slots
    many_slots h = rw (le-leb _ _ least, lt-leb _ _ h)

    module _ (most : length b.file_lengths ≤ 16) where
      pub word-list : (length b.word_lengths ≡ length b.file_lengths → ⊥) → false ≡ board_fits b
      unfolding board_fits slots
      word-list n = rw (le-leb _ _ least, le-leb _ _ most, ne_eqb _ _ n)

      module _ (lw : length b.word_lengths ≡ length b.file_lengths) where
        pub read-list : (length b.read_lengths ≡ length b.file_lengths → ⊥) → false ≡ board_fits b
        unfolding board_fits slots
        read-list n = rw (le-leb _ _ least, le-leb _ _ most, eq-eqb _ _ lw, ne_eqb _ _ n)

        module _ (lr : length b.read_lengths ≡ length b.file_lengths) {f : Bool} (fe : f ≡ eqb (total b.file_lengths) (length b.files)) where
          pub file-sum : not f ≡ true → false ≡ board_fits b
          unfolding board_fits slots
          file-sum n = rw (le-leb _ _ least, le-leb _ _ most, eq-eqb _ _ lw, eq-eqb _ _ lr, sym fe ∙ not-true f n)

          module _ (ft : not f ≡ false) {w : Bool} (we : w ≡ eqb (total b.word_lengths) (length b.words)) where
            pub word_sum : not w ≡ true → false ≡ board_fits b
            unfolding board_fits slots
            word_sum n = rw (le-leb _ _ least, le-leb _ _ most, eq-eqb _ _ lw, eq-eqb _ _ lr, sym fe ∙ not-false f ft, sym we ∙ not-true w n)

            pub read-sum : not w ≡ false → {r : Bool} → r ≡ eqb (total b.read_lengths) (length b.read) → r ≡ board_fits b
            unfolding board_fits slots
            read-sum wt e = rw (le-leb _ _ least, le-leb _ _ most, eq-eqb _ _ lw, eq-eqb _ _ lr, sym fe ∙ not-false f ft, sym we ∙ not-false w wt) e

-- What a board that fits has.
pub record Fitting (b : Board) : Type 0 where
  pub least : 1 ≤ length b.file_lengths
  pub most : length b.file_lengths ≤ 16
  pub word-list : length b.word_lengths ≡ length b.file_lengths
  pub read-list : length b.read_lengths ≡ length b.file_lengths
  pub files : total b.file_lengths ≡ length b.files
  pub words : total b.word_lengths ≡ length b.words
  pub read : total b.read_lengths ≡ length b.read

pub fitting : (b : Board) → board_fits b ≡ true → Fitting b
unfolding board_fits slots
fitting b h =
    let r₁ = and_right (leb 1 (length b.file_lengths)) _ h in
    let r₂ = and_right (leb (length b.file_lengths) 16) _ r₁ in
    let r₃ = and_right (eqb (length b.word_lengths) (length b.file_lengths)) _ r₂ in
    let r₄ = and_right (eqb (length b.read_lengths) (length b.file_lengths)) _ r₃ in
    let r₅ = and_right (eqb (total b.file_lengths) (length b.files)) _ r₄ in
    record {
      least = leb-true _ _ (and_left _ _ h);
      most = leb-true _ _ (and_left _ _ r₁);
      word-list = eqb-true _ _ (and_left _ _ r₂);
      read-list = eqb-true _ _ (and_left _ _ r₃);
      files = eqb-true _ _ (and_left _ _ r₄);
      words = eqb-true _ _ (and_left _ _ r₅);
      read = eqb-true _ _ (and_right (eqb (total b.word_lengths) (length b.words)) _ r₅);
    }
