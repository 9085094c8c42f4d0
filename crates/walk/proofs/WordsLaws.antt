-- The words of the waiting bits.
use mathlib.Core.Path.{◌≡◌, refl, sym, ap, ◌∙◌}
use mathlib.Core.Bool.{Bool, true, false, cond, not, ◌&&◌, ◌||◌}
use mathlib.Core.List.{List}
use mathlib.Core.Logic.{⊎_elim}
use Prim.Native.Nat.{ℕ, ◌+◌, ◌*◌, ◌/◌, ◌%◌, ◌^◌, ◌≤◌, ◌<◌}
use native.Mathlib.Omega.{arith}
use lib.Dec.{eqb, ltb}
use lib.ListN.{length, get_or, set, replicate, length-set, length-replicate, get_or-replicate}
use lib.Seq.{ext_get_or, get_or-set_same, get_or-set_other}
use borrow.Author.Tests.{eq-eqb, ne_eqb, eqb-true, ltb-true, ltb-false}
use Rattle.numbers.specs.Bits.{bit_of, word_of}
use Rattle.numbers.specs.NextBit.{next_bit, without_next, with_bit, Least}
use Rattle.numbers.proofs.BitsLaws.{word_lt, word_ext, word_bits, bit-word, zero_bit}
use Rattle.numbers.proofs.NextBitLaws.{next_law, next_in, without-bit, without-lt, with-bit, with-lt}
use Rattle.numbers.proofs.Bools.{either, clash, same?}
use Rattle.walk.specs.Marks.{mark_count, first_waiting, waiting_words}
use Rattle.walk.proofs.First.{first_at, first_none, first_waits, first-le}
use Rattle.walk.proofs.Step.{length_tabulate, get_d_tabulate}

-- One word for each 64 marks.
abbrev pub word_count : ℕ
word_count = mark_count / 64

pub words-length : (m : List ℕ) → length (waiting_words m) ≡ length m / 64
unfolding waiting_words
words-length m = length_tabulate (length m / 64) _

word_at : (m : List ℕ) (j : ℕ) → j < length m / 64 → get_or (waiting_words m) j 0 ≡ word_of 64 (λ b. eqb (get_or m (j * 64 + b) 0) 1)
unfolding waiting_words
word_at m j h = get_d_tabulate (length m / 64) _ j h

-- Bit b of word j is set exactly where mark 64 * j + b is 1.
pub waiting-bit : (m : List ℕ) (j b : ℕ) → j < length m / 64 → b < 64 → bit_of 64 (get_or (waiting_words m) j 0) b ≡ eqb (get_or m (j * 64 + b) 0) 1
waiting-bit m j b h l = rw (word_at m j h) (bit-word 64 (λ b. eqb (get_or m (j * 64 + b) 0) 1) b l)

-- Words that have these bits are those words.
words_same : (m ws : List ℕ) → length ws ≡ length m / 64 → ((j : ℕ) → j < length ws → get_or ws j 0 < 2 ^ 64)
    → ((j b : ℕ) → j < length ws → b < 64 → bit_of 64 (get_or ws j 0) b ≡ eqb (get_or m (j * 64 + b) 0) 1) → ws ≡ waiting_words m
words_same m ws e f g =
    ext_get_or 0 _ _ (e ∙ sym (words-length m))
    (λ j h. let l : j < length m / 64 = omega arith in
    sym (word_bits 64 (get_or ws j 0) (f j h)) ∙ word_ext 64 _ _ (λ b k. g j b h k) ∙ sym (word_at m j l))

-- No mark waits where all are 0.
pub words_none : (n : ℕ) → replicate n 0 ≡ waiting_words (replicate (n * 64) 0)
words_none n =
    let l : length (replicate {A = ℕ} n 0) ≡ n = length-replicate n 0 in
    let k : length (replicate {A = ℕ} (n * 64) 0) ≡ n * 64 = length-replicate (n * 64) 0 in
    words_same (replicate (n * 64) 0) (replicate n 0) (omega arith)
    (λ j h. rw (get_or-replicate {A = ℕ} n j 0 0 (omega arith)) (omega arith))
    (λ j b h i. rw (get_or-replicate {A = ℕ} n j 0 0 (omega arith), get_or-replicate {A = ℕ} (n * 64) (j * 64 + b) 0 0 (omega arith)) (zero_bit 64 b))

-- Words of the waiting bits of some marks.
module _ (m ws : List ℕ) (sized : length m ≡ length ws * 64) (words : ws ≡ waiting_words m) where
  bit : (j b : ℕ) → j < length ws → b < 64 → bit_of 64 (get_or ws j 0) b ≡ eqb (get_or m (j * 64 + b) 0) 1
  bit j b h l = rw words (waiting-bit m j b (omega arith) l)

  small : (j : ℕ) → j < length ws → get_or ws j 0 < 2 ^ 64
  small j h = let l : j < length m / 64 = omega arith in rw (words, word_at m j l) (word_lt 64 (λ b. eqb (get_or m (j * 64 + b) 0) 1))

  -- The same, from the mark's side.
  mark : (k : ℕ) → k < length m → bit_of 64 (get_or ws (k / 64) 0) (k % 64) ≡ eqb (get_or m k 0) 1
  mark k h =
      let e : k / 64 * 64 + k % 64 ≡ k = omega arith in
      bit (k / 64) (k % 64) (omega arith) (omega arith) ∙ ap (λ i. eqb (get_or m i 0) 1) e

  waits-not : (k : ℕ) → k < length m → bit_of 64 (get_or ws (k / 64) 0) (k % 64) ≡ false → get_or m k 0 ≡ 1 → ⊥
  waits-not k h e q = clash (eq-eqb (get_or m k 0) 1 q) (sym (mark k h) ∙ e)

  -- The words before j are 0.
  module _ (j : ℕ) (zeros : (i : ℕ) → i < j → get_or ws i 0 ≡ 0) where
    none_before : j ≤ length ws → (k : ℕ) → k < j * 64 → get_or m k 0 ≡ 1 → ⊥
    none_before h k l = waits-not k (omega arith) (rw (zeros (k / 64) (omega arith)) (zero_bit 64 (k % 64)))

    pub first_word : j < length ws → (get_or ws j 0 ≡ 0 → ⊥) → {b : ℕ} → b ≡ next_bit 64 (get_or ws j 0) → j * 64 + b ≡ first_waiting m
    first_word h some {b} e = first_at m (j * 64 + b) (omega (arith, in_word)) before (eqb-true _ _ (sym (bit j b h in_word) ∙ least.set in_word))
      where
        least : Least 64 (bit_of 64 (get_or ws j 0)) b
        least = rw e (next_law 64 (get_or ws j 0))

        in_word : b < 64
        in_word = rw e (next_in 64 (get_or ws j 0) (small j h) some)

        before : (k : ℕ) → k < j * 64 + b → get_or m k 0 ≡ 1 → ⊥
        before k l =
            ⊎_elim (λ t. none_before (omega arith) k (ltb-true _ _ t))
            (λ t. let g : j * 64 ≤ k = ltb-false _ _ t in
            let i = in_word in
            let d : k / 64 ≡ j = omega arith in
            waits-not k (omega arith) (rw d (least.before (k % 64) (omega arith))))
            (either (ltb k (j * 64)))

    pub first_nowhere : j ≡ length ws → j * 64 ≡ first_waiting m
    first_nowhere h = let e : j * 64 ≡ length m = omega arith in e ∙ first_none m (λ k l. none_before (omega arith) k (omega arith))

  -- One mark changes, and its bit with it.
  words-set : (c x y : ℕ) → c < length m → y < 2 ^ 64
      → ((i : ℕ) → i < 64 → bit_of 64 y i ≡ cond (eqb i (c % 64)) (eqb x 1) (bit_of 64 (get_or ws (c / 64) 0) i))
      → set ws (c / 64) y ≡ waiting_words (set m c x)
  words-set c x y h l f = words_same (set m c x) (set ws (c / 64) y) (omega (arith, length-set m c x, length-set ws (c / 64) y)) lows bits
    where
      lows : (j : ℕ) → j < length (set ws (c / 64) y) → get_or (set ws (c / 64) y) j 0 < 2 ^ 64
      lows j g =
          ⊎_elim (λ e. rw (e, get_or-set_same ws (c / 64) y 0 (omega arith)) l)
          (λ e. rw (get_or-set_other ws (c / 64) j y 0 e) (small j (omega (arith, length-set ws (c / 64) y))))
          (same? j (c / 64))

      bits : (j b : ℕ) → j < length (set ws (c / 64) y) → b < 64 → bit_of 64 (get_or (set ws (c / 64) y) j 0) b ≡ eqb (get_or (set m c x) (j * 64 + b) 0) 1
      bits j b g k = ⊎_elim here there (same? j (c / 64))
        where
          there : (j ≡ c / 64 → ⊥) → bit_of 64 (get_or (set ws (c / 64) y) j 0) b ≡ eqb (get_or (set m c x) (j * 64 + b) 0) 1
          there e =
              let o : j * 64 + b ≡ c → ⊥ = λ q. e (omega arith) in
              rw (get_or-set_other ws (c / 64) j y 0 e, get_or-set_other m c (j * 64 + b) x 0 o) (bit j b (omega (arith, length-set ws (c / 64) y)) k)

          here : j ≡ c / 64 → bit_of 64 (get_or (set ws (c / 64) y) j 0) b ≡ eqb (get_or (set m c x) (j * 64 + b) 0) 1
          here e =
              ⊎_elim
              (λ d. let q : j * 64 + b ≡ c = omega arith in
              rw (e, get_or-set_same ws (c / 64) y 0 (omega arith), f b k, eq-eqb b (c % 64) d) (rw (← e, q, get_or-set_same m c x 0 h)))
              (λ d. let o : j * 64 + b ≡ c → ⊥ = λ q. d (omega arith) in
              rw (get_or-set_other m c (j * 64 + b) x 0 o, e, get_or-set_same ws (c / 64) y 0 (omega arith), f b k, ne_eqb b (c % 64) d) (rw (← e) (bit j b (omega arith) k)))
              (same? b (c % 64))

  -- An instance waits.
  pub words_touched : (c : ℕ) {y : ℕ} → c < length m → y ≡ with_bit 64 (c % 64) (get_or ws (c / 64) 0) → set ws (c / 64) y ≡ waiting_words (set m c 1)
  words_touched c {y} h e =
      words-set c 1 y h (rw e (with-lt 64 (c % 64) (get_or ws (c / 64) 0)))
      (λ i l. rw e (with-bit 64 (c % 64) (get_or ws (c / 64) 0) i l ∙ or-cond (eqb i (c % 64)) (bit_of 64 (get_or ws (c / 64) 0) i)))
    where
      or-cond : (t s : Bool) → t || s ≡ cond t true s
      or-cond true s = refl
      or-cond false s = refl

  -- The first waiting one is done.
  pub words_taken : {k y : ℕ} → k ≡ first_waiting m → k < length m → y ≡ without_next 64 (get_or ws (k / 64) 0) → set ws (k / 64) y ≡ waiting_words (set m k 2)
  words_taken {k} {y} first h e =
      words-set k 2 y h (rw e (without-lt 64 (get_or ws (k / 64) 0)))
      (λ i l. rw e (without-bit 64 (get_or ws (k / 64) 0) i l ∙ rw next (and-cond (eqb i (k % 64)) (bit_of 64 (get_or ws (k / 64) 0) i))))
    where
      and-cond : (t s : Bool) → not t && s ≡ cond t false s
      and-cond true s = refl
      and-cond false s = refl

      next : next_bit 64 (get_or ws (k / 64) 0) ≡ k % 64
      next =
          let x = get_or ws (k / 64) 0 in
          let on : bit_of 64 x (k % 64) ≡ true = mark k h ∙ eq-eqb (get_or m k 0) 1 (rw first (first_waits m (omega arith))) in
          let in_word : next_bit 64 x < 64 = next_in 64 x (small (k / 64) (omega arith)) (λ z. clash on (rw z (zero_bit 64 (k % 64)))) in
          let least = next_law 64 x in
          let waits : get_or m (k / 64 * 64 + next_bit 64 x) 0 ≡ 1 = eqb-true _ _ (sym (bit (k / 64) (next_bit 64 x) (omega arith) in_word) ∙ least.set in_word) in
          let from : first_waiting m ≤ k / 64 * 64 + next_bit 64 x = first-le m (k / 64 * 64 + next_bit 64 x) (omega arith) waits in
          ⊎_elim (λ t. clash on (least.before (k % 64) (ltb-true _ _ t))) (λ t. let to = ltb-false (k % 64) (next_bit 64 x) t in omega arith) (either (ltb (k % 64) (next_bit 64 x)))
