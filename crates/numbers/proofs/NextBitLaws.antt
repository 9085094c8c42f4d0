-- The laws of the next bit, of the word without it and of a word with a bit, at each width.
use Prim.Native.Nat.{ℕ, zero, suc, ◌+◌, ◌-◌, ◌*◌, ◌/◌, ◌^◌, ◌≤◌, ◌<◌}
use mathlib.Core.Bool.{Bool, true, false, cond, not, ◌&&◌, ◌||◌, or_comm}
use mathlib.Core.Logic.{⊎_elim}
use mathlib.Core.Path.{◌≡◌, refl, sym, ◌∙◌, ap}
use native.Mathlib.Nat.{pow-suc, zero-add, div-eq_of_lt}
use native.Mathlib.Omega.{arith}
use borrow.Author.Tests.{eq-eqb, ne_eqb, ltb-true, ltb-false}
use lib.Bits.{bit_and, bit_or, bit_xor, xor_add_and}
use lib.Count.{ones, ones_in, ones_cat, count_leading_zeros, leading_of_zero, leading_top}
use lib.Pow.{high, pow-add, pow_mono, shl-shr}
use lib.Dec.{eqb, ltb}
use Rattle.numbers.specs.Bits.{Bits, digit, word_of, bit_of, and_bits, and_word, or_bits, or_word}
use Rattle.numbers.specs.NextBit.{least_bit, other_bits, next_bit, without_next, with_bit, Least}
use Rattle.numbers.proofs.BitsLaws.{word_lt, word_ext, word-zero, bit-word, bit_in, word_bits, zero_bit, word_none, and_machine, or_machine}
use Rattle.numbers.proofs.Bools.{either, clash, and_none, same?}

-- The least bit

pub least_law : (w : ℕ) (f : Bits) → Least w f (least_bit w f)
unfolding least_bit
least_law zero f = record { most = omega arith; set = λ h. absurd (omega arith); before = λ k h. absurd (omega arith) }
least_law (suc w) f = go (f zero) refl (least_law w (λ i. f (suc i)))
  where
    next : {r : ℕ} → f zero ≡ false → Least w (λ i. f (suc i)) r → (k : ℕ) → k < suc r → f k ≡ false
    next e l zero h = e
    next e l (suc k) h = l.before k (omega arith)

    go : (t : Bool) → f zero ≡ t → {r : ℕ} → Least w (λ i. f (suc i)) r → Least (suc w) f (cond t zero (suc r))
    go true e l = record { most = omega arith; set = λ h. e; before = λ k h. absurd (omega arith) }
    go false e l = record { most = let h = l.most in omega arith; set = λ h. l.set (omega arith); before = next e l }

-- There is no other.
least_one : {w : ℕ} {f : Bits} {r s : ℕ} → Least w f r → Least w f s → r ≡ s
least_one {w} {f} {r} {s} a b =
    ⊎_elim (λ t. let h = ltb-true r s t in let m = b.most in clash (a.set (omega arith)) (b.before r h))
    (λ t. ⊎_elim (λ u. let h = ltb-true s r u in let m = a.most in clash (b.set (omega arith)) (a.before s h))
    (λ u. let h = ltb-false r s t in let g = ltb-false s r u in omega arith)
    (either (ltb s r)))
    (either (ltb r s))

-- "The next active bit, the least not yet taken", or none.
pub next_law : (w x : ℕ) → Least w (bit_of w x) (next_bit w x)
unfolding next_bit
next_law w x = least_law w (bit_of w x)

-- Bit 0 is leftmost: the next bit's number is how many zeros the word begins with.
pub next_machine : (w x : ℕ) → x < 2 ^ w → count_leading_zeros w x ≡ next_bit w x
next_machine w x h = least_one (go x h) (next_law w x)
  where
    go : (y : ℕ) → y < 2 ^ w → Least w (bit_of w y) (count_leading_zeros w y)
    go zero l =
        rw (leading_of_zero w)
        (record { most = omega arith; set = λ k. absurd (omega arith); before = λ k m. zero_bit w k })
    go (suc n) l =
        let t = leading_top w (suc n) (omega arith) l in
        let z = count_leading_zeros w (suc n) in
        let e = t.1 in
        let in-w : z < w = omega arith in
        let p : 2 ^ suc t.0 ≡ 2 ^ t.0 * 2 = pow-suc 2 t.0 in
        let lo = t.2 in
        let hi = t.3 in
        let d : w - 1 - z ≡ t.0 = omega arith in
        let one : suc n / 2 ^ t.0 ≡ 1 =
        let r : suc n - 2 ^ t.0 < 2 ^ t.0 = omega arith in
        let s : suc n ≡ 1 * 2 ^ t.0 + (suc n - 2 ^ t.0) = omega arith in
        ap (λ y. y / 2 ^ t.0) s ∙ high 1 t.0 r in
        record {
          most = omega arith;
          set = λ k. rw (bit_in w (suc n) z in-w, d, one);
          before = λ k m.
              let q : k < w = omega arith in
              let o : suc t.0 ≤ w - 1 - k = omega arith in
              let b : suc n / 2 ^ (w - 1 - k) ≡ 0 = let c = pow_mono o in div-eq_of_lt (omega arith) in
              rw (bit_in w (suc n) k q, b);
        }

-- The word without its next bit

shifted : (j k n : ℕ) → j + k ≡ n → 2 ^ n / 2 ^ k ≡ 2 ^ j
shifted j k n e = rw (← e, pow-add) (shl-shr (2 ^ j) k)

-- The word without bit k, and that bit.
without-sum : (w k : ℕ) (f : Bits) → k < w → f k ≡ true → word_of w (other_bits k f) + 2 ^ (w - 1 - k) ≡ word_of w f
unfolding word_of other_bits
without-sum zero k f h e = absurd (omega arith)
without-sum (suc w) k f h e = ⊎_elim last (other (λ l. without-sum w k f l e)) (same? k w)
  where
    last : k ≡ w → word_of w (other_bits k f) * 2 + digit (not (eqb w k) && f w) + 2 ^ (suc w - 1 - k) ≡ word_of w f * 2 + digit (f w)
    last d =
        let a : word_of w (other_bits k f) ≡ word_of w f =
        word_ext w (other_bits k f) f (λ i l. let g : eqb i k ≡ false = ne_eqb i k (λ q. absurd (omega arith)) in simp g) in
        let b : suc w - 1 - k ≡ 0 = omega arith in
        let t : f w ≡ true = ap f (sym d) ∙ e in
        rw (a, b, eq-eqb w k (sym d), t) (omega arith)

    other : (k < w → word_of w (other_bits k f) + 2 ^ (w - 1 - k) ≡ word_of w f) → (k ≡ w → ⊥)
        → word_of w (other_bits k f) * 2 + digit (not (eqb w k) && f w) + 2 ^ (suc w - 1 - k) ≡ word_of w f * 2 + digit (f w)
    other r d =
        let l : k < w = omega arith in
        let b : suc w - 1 - k ≡ suc (w - 1 - k) = omega arith in
        rw (ne_eqb w k (λ q. d (sym q)), b, pow-suc) (let s = r l in omega arith)

-- The word that has bit k alone.
only-bit : (w k : ℕ) → k < w → word_of w (λ i. eqb i k) ≡ 2 ^ (w - 1 - k)
unfolding other_bits
only-bit w k h =
    let z : word_of w (other_bits k (λ i. eqb i k)) ≡ 0 = word-zero w (other_bits k (λ i. eqb i k)) (λ i l. none (eqb i k)) in
    sym (without-sum w k (λ i. eqb i k) h (eq-eqb k k refl)) ∙ rw z (zero-add (2 ^ (w - 1 - k)))
  where
    none : (t : Bool) → not t && t ≡ false
    none true = refl
    none false = refl

module _ (w x : ℕ) (h : x < 2 ^ w) where
  -- A word that is not 0 has a next bit.
  pub next_in : (x ≡ 0 → ⊥) → next_bit w x < w
  next_in some =
      ⊎_elim (λ y. ltb-true (next_bit w x) w y)
      (λ n. let g = ltb-false (next_bit w x) w n in absurd (some (word_none w x h (λ k m. (next_law w x).before k (omega arith)))))
      (either (ltb (next_bit w x) w))

  next-set : (x ≡ 0 → ⊥) → bit_of w x (next_bit w x) ≡ true
  next-set some = (next_law w x).set (next_in some)

  next-sum : (x ≡ 0 → ⊥) → without_next w x + 2 ^ (w - 1 - next_bit w x) ≡ x
  unfolding without_next
  next-sum some = without-sum w (next_bit w x) (bit_of w x) (next_in some) (next-set some) ∙ word_bits w x h

  -- Without it the word has one bit less.
  pub next-ones : (x ≡ 0 → ⊥) → ones x ≡ 1 + ones (without_next w x)
  unfolding ones ones_in
  next-ones some =
      let t = leading_top w x (omega arith) h in
      let j = t.0 in
      let r = without_next w x in
      let p : 2 ^ suc j ≡ 2 ^ j * 2 = pow-suc 2 j in
      let d : w - 1 - next_bit w x ≡ j = omega (arith, t.1, next_machine w x h) in
      let s : r + 2 ^ j ≡ x = rw d at (next-sum some) in
      let l : r < 2 ^ j = omega (arith, s, p, t.3) in
      let e : x ≡ 1 * 2 ^ j + r = omega (arith, s) in
      ap ones e ∙ ones_cat j 1 r l

  next-and : (some : x ≡ 0 → ⊥) → bit_and x (2 ^ (w - 1 - next_bit w x)) ≡ 2 ^ (w - 1 - next_bit w x)
  unfolding and_word and_bits
  next-and some =
      let k = next_bit w x in
      let l = next_in some in
      let o = only-bit w k l in
      let p : 2 ^ (w - 1 - k) < 2 ^ w = rw (← o) (word_lt w (λ i. eqb i k)) in
      and_machine w x (2 ^ (w - 1 - k)) h p ∙ word_ext w _ (λ i. eqb i k) bits ∙ o
    where
      bits : (i : ℕ) → i < w → bit_of w x i && bit_of w (2 ^ (w - 1 - next_bit w x)) i ≡ eqb i (next_bit w x)
      bits i m =
          rw (← only-bit w (next_bit w x) (next_in some), bit-word w (λ j. eqb j (next_bit w x)) i m)
          (⊎_elim (λ d. let on : bit_of w x i ≡ true = ap (bit_of w x) d ∙ next-set some in rw on) (λ d. rw (ne_eqb i (next_bit w x) d) (and_none (bit_of w x i))) (same? i (next_bit w x)))

  -- As the machine computes it: the leftmost bit, shifted to the next one, is taken off.
  pub without_machine : (x ≡ 0 → ⊥) → bit_xor x (2 ^ (w - 1) / 2 ^ next_bit w x) ≡ without_next w x
  without_machine some =
      let k = next_bit w x in
      let l = next_in some in
      let s : 2 ^ (w - 1) / 2 ^ k ≡ 2 ^ (w - 1 - k) = shifted (w - 1 - k) k (w - 1) (omega arith) in
      rw s (omega (arith, xor_add_and x (2 ^ (w - 1 - k)), next-and some, next-sum some))

-- The word 0 stays as it is.
pub without_none : (w x : ℕ) → x ≡ 0 → 0 ≡ without_next w x
unfolding without_next other_bits
without_none w x e = sym (word-zero w (other_bits (next_bit w x) (bit_of w x)) (λ i l. rw (e, zero_bit w i) (and_none (not (eqb i (next_bit w 0))))))

-- The bits of the word without its next bit.
pub without-bit : (w x i : ℕ) → i < w → bit_of w (without_next w x) i ≡ not (eqb i (next_bit w x)) && bit_of w x i
unfolding without_next other_bits
without-bit w x i h = bit-word w (other_bits (next_bit w x) (bit_of w x)) i h

pub without-lt : (w x : ℕ) → without_next w x < 2 ^ w
unfolding without_next
without-lt w x = word_lt w (other_bits (next_bit w x) (bit_of w x))

-- The word with bit k

module _ (w k x : ℕ) where
  pub with-bit : (i : ℕ) → i < w → bit_of w (with_bit w k x) i ≡ eqb i k || bit_of w x i
  unfolding with_bit
  with-bit i h = bit-word w (λ j. eqb j k || bit_of w x j) i h

  pub with-lt : with_bit w k x < 2 ^ w
  unfolding with_bit
  with-lt = word_lt w (λ j. eqb j k || bit_of w x j)

  -- As the machine computes it: the leftmost bit, shifted to bit k, is put to the others.
  pub with_machine : x < 2 ^ w → k < w → bit_or x (2 ^ (w - 1) / 2 ^ k) ≡ with_bit w k x
  unfolding with_bit or_word or_bits
  with_machine h l =
      let s : 2 ^ (w - 1) / 2 ^ k ≡ word_of w (λ i. eqb i k) = shifted (w - 1 - k) k (w - 1) (omega arith) ∙ sym (only-bit w k l) in
      rw s
      (or_machine w x (word_of w (λ i. eqb i k)) h (word_lt w (λ i. eqb i k))
      ∙ word_ext w _ (λ i. eqb i k || bit_of w x i) (λ i m. rw (bit-word w (λ i. eqb i k) i m) (or_comm (bit_of w x i) (eqb i k))))

  -- A bit that the word has not.
  pub with_none : x < 2 ^ w → w ≤ k → x ≡ with_bit w k x
  unfolding with_bit
  with_none h l = sym (word_ext w _ (bit_of w x) (λ i m. rw (ne_eqb i k (λ e. omega arith))) ∙ word_bits w x h)
