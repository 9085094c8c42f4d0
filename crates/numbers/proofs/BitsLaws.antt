-- The laws of words of w bits. Every one holds at each width.
use Prim.Native.Nat.{ℕ, zero, suc, ◌+◌, ◌-◌, ◌*◌, ◌/◌, ◌%◌, ◌^◌, ◌≤◌, ◌<◌}
use mathlib.Core.Bool.{Bool, true, false, not, ◌&&◌, ◌||◌}
use mathlib.Core.Path.{◌≡◌, refl, sym, ◌∙◌, ap, subst}
use native.Mathlib.Nat.{pow-suc, add-zero, add-suc, zero-mul, zero-add, zero-div, div-one}
use native.Mathlib.Omega.{arith}
use borrow.Author.Tests.{lt-ltb, le-ltb, le-leb, lt-leb}
use lib.Bits.{bit_and, bit_or, and_block, or_block}
use lib.Pow.{high, low, pow-add, shl_lt, shr-shr}
use lib.Dec.{eqb, ltb, lit<}
use Rattle.numbers.specs.Bits.{Bits, digit, word_of, bit_of, not_bits, and_bits, or_bits, left_bits, right_bits, not_word, and_word, or_word, left_word, right_word}
use Rattle.numbers.proofs.Bools.{and_none}

-- Words and their bits

digit_lt : (b : Bool) → digit b < 2
digit_lt true = lit< tt
digit_lt false = lit< tt

digit_odd : (x : ℕ) → x < 2 → digit (eqb x 1) ≡ x
digit_odd zero h = refl
digit_odd (suc zero) h = refl
digit_odd (suc (suc x)) h = absurd (omega arith)

odd_digit : (b : Bool) → eqb (digit b) 1 ≡ b
odd_digit true = refl
odd_digit false = refl

pub word_lt : (w : ℕ) (f : Bits) → word_of w f < 2 ^ w
unfolding word_of
word_lt zero f = lit< tt
word_lt (suc w) f = rw pow-suc (omega (arith, word_lt w f, digit_lt (f w)))

pub word_ext : (w : ℕ) (f g : Bits) → ((i : ℕ) → i < w → f i ≡ g i) → word_of w f ≡ word_of w g
unfolding word_of
word_ext zero f g h = refl
word_ext (suc w) f g h = rw (h w (omega arith), word_ext w f g (λ i l. h i (omega arith)))

-- The first m bits, and then k: the law that the others follow from.
pub word_split : (m k : ℕ) (f : Bits) → word_of (m + k) f ≡ word_of m f * 2 ^ k + word_of k (λ i. f (m + i))
unfolding word_of
word_split m zero f = rw add-zero (omega arith)
word_split m (suc k) f = rw (add-suc, pow-suc, word_split m k f) (omega arith)

pub word-zero : (w : ℕ) (f : Bits) → ((i : ℕ) → i < w → f i ≡ false) → word_of w f ≡ 0
unfolding word_of
word-zero zero f h = refl
word-zero (suc w) f h = rw (h w (omega arith), word-zero w f (λ i l. h i (omega arith)))

word-div : (m k : ℕ) (f : Bits) → word_of (m + k) f / 2 ^ k ≡ word_of m f
word-div m k f = rw (word_split m k f) (high (word_of m f) k (word_lt k (λ i. f (m + i))))

last_bit : (i : ℕ) (f : Bits) → eqb (word_of (suc i) f % 2) 1 ≡ f i
unfolding word_of
last_bit i f =
    let e : (word_of i f * 2 + digit (f i)) % 2 ≡ digit (f i) = omega (arith, digit_lt (f i)) in
    rw e (odd_digit (f i))

-- The word of given bits has these bits.
pub bit-word : (w : ℕ) (f : Bits) (i : ℕ) → i < w → bit_of w (word_of w f) i ≡ f i
unfolding bit_of
bit-word w f i h =
    let a : w ≡ suc i + (w - 1 - i) = omega arith in
    let e : word_of w f / 2 ^ (w - 1 - i) ≡ word_of (suc i) f = ap (λ j. word_of j f / 2 ^ (w - 1 - i)) a ∙ word-div (suc i) (w - 1 - i) f in
    simp (lt-ltb _ _ h, e) (last_bit i f)

-- A word has no bit beyond its width.
pub bit_out : (w x i : ℕ) → w ≤ i → bit_of w x i ≡ false
unfolding bit_of
bit_out w x i h = simp (le-ltb _ _ h)

pub bit_in : (w x i : ℕ) → i < w → bit_of w x i ≡ eqb (x / 2 ^ (w - 1 - i) % 2) 1
unfolding bit_of
bit_in w x i h = simp (lt-ltb _ _ h)

-- A word is the word of its bits.
pub word_bits : (w x : ℕ) → x < 2 ^ w → word_of w (bit_of w x) ≡ x
unfolding word_of
word_bits zero x h = omega arith
word_bits (suc w) x h = rw (word_ext w (bit_of (suc w) x) (bit_of w (x / 2)) upper, word_bits w (x / 2) half, last) (omega arith)
  where
    last : digit (bit_of (suc w) x w) ≡ x % 2
    last =
        let e : suc w - 1 - w ≡ 0 = omega arith in
        let l : w < suc w = omega arith in
        rw (bit_in (suc w) x w l, e, div-one) (digit_odd (x % 2) (omega arith))

    half : x / 2 < 2 ^ w
    half = let g : x < 2 ^ w * 2 = rw pow-suc at h in omega arith

    upper : (i : ℕ) → i < w → bit_of (suc w) x i ≡ bit_of w (x / 2) i
    upper i l =
        let e : suc w - 1 - i ≡ 1 + (w - 1 - i) = omega arith in
        let m : i < suc w = omega arith in
        rw (bit_in (suc w) x i m, bit_in w (x / 2) i l, e, ← shr-shr x 1 (w - 1 - i))

-- A word is 0 exactly where it has no bit.

pub zero_bit : (w i : ℕ) → bit_of w 0 i ≡ false
unfolding bit_of
zero_bit w i = rw (zero-div (2 ^ (w - 1 - i))) (and_none (ltb i w))

pub word_none : (w x : ℕ) → x < 2 ^ w → ((i : ℕ) → i < w → bit_of w x i ≡ false) → x ≡ 0
word_none w x h f = sym (word_bits w x h) ∙ word-zero w (bit_of w x) f

-- The five operations, bit by bit

pub not-bit : (w x i : ℕ) → i < w → bit_of w (not_word w x) i ≡ not (bit_of w x i)
unfolding not_word not_bits
not-bit w x i h = bit-word w (not_bits (bit_of w x)) i h

pub and-bit : (w x y i : ℕ) → i < w → bit_of w (and_word w x y) i ≡ (bit_of w x i && bit_of w y i)
unfolding and_word and_bits
and-bit w x y i h = bit-word w (and_bits (bit_of w x) (bit_of w y)) i h

pub or-bit : (w x y i : ℕ) → i < w → bit_of w (or_word w x y) i ≡ (bit_of w x i || bit_of w y i)
unfolding or_word or_bits
or-bit w x y i h = bit-word w (or_bits (bit_of w x) (bit_of w y)) i h

pub left-bit : (w k x i : ℕ) → i + k < w → bit_of w (left_word w k x) i ≡ bit_of w x (i + k)
unfolding left_word left_bits
left-bit w k x i h = let l : i < w = omega arith in rw (bit-word w (left_bits w k (bit_of w x)) i l) (simp (lt-ltb _ _ h))

pub right-bit : (w k x i : ℕ) → k + i < w → bit_of w (right_word w k x) (k + i) ≡ bit_of w x i
unfolding right_word right_bits
right-bit w k x i h =
    let l : k ≤ k + i = omega arith in
    rw (bit-word w (right_bits k (bit_of w x)) (k + i) h) (simp (le-leb _ _ l) (ap (bit_of w x) (omega arith)))

-- A shift by the width or more leaves nothing.
pub left_gone : (w k : ℕ) (f : Bits) → w ≤ k → word_of w (left_bits w k f) ≡ 0
unfolding left_bits
left_gone w k f h = word-zero w (left_bits w k f) (λ i l. gone i)
  where
    gone : (i : ℕ) → left_bits w k f i ≡ false
    gone i = let g : w ≤ i + k = omega arith in simp (le-ltb _ _ g)

pub right_gone : (w k : ℕ) (f : Bits) → w ≤ k → word_of w (right_bits k f) ≡ 0
unfolding right_bits
right_gone w k f h = word-zero w (right_bits k f) gone
  where
    gone : (i : ℕ) → i < w → right_bits k f i ≡ false
    gone i l = let g : i < k = omega arith in simp (lt-leb _ _ g)

-- The five operations as the machine computes them

not_digit : (b : Bool) → digit (not b) + digit b ≡ 1
not_digit true = refl
not_digit false = refl

not-sum : (w : ℕ) (f : Bits) → word_of w (not_bits f) + word_of w f + 1 ≡ 2 ^ w
unfolding word_of not_bits
not-sum zero f = refl
not-sum (suc w) f = rw pow-suc (omega (arith, not-sum w f, not_digit (f w)))

pub not_machine : (w x : ℕ) → x < 2 ^ w → 2 ^ w - 1 - x ≡ not_word w x
unfolding not_word
not_machine w x h = omega (arith, not-sum w (bit_of w x), word_bits w x h)

and_digit : (a b : Bool) → bit_and (digit a) (digit b) ≡ digit (a && b)
and_digit true true = refl
and_digit true false = refl
and_digit false true = refl
and_digit false false = refl

or_digit : (a b : Bool) → bit_or (digit a) (digit b) ≡ digit (a || b)
or_digit true true = refl
or_digit true false = refl
or_digit false true = refl
or_digit false false = refl

word_and : (w : ℕ) (f g : Bits) → bit_and (word_of w f) (word_of w g) ≡ word_of w (and_bits f g)
unfolding word_of and_bits
word_and zero f g = refl
word_and (suc w) f g =
    and_block 1 (word_of w f) (word_of w g) (digit (f w)) (digit (g w)) (digit_lt (f w)) (digit_lt (g w)) ∙ rw (and_digit, word_and w f g)

word-or : (w : ℕ) (f g : Bits) → bit_or (word_of w f) (word_of w g) ≡ word_of w (or_bits f g)
unfolding word_of or_bits
word-or zero f g = refl
word-or (suc w) f g =
    or_block 1 (word_of w f) (word_of w g) (digit (f w)) (digit (g w)) (digit_lt (f w)) (digit_lt (g w)) ∙ rw (or_digit, word-or w f g)

module _ (w x y : ℕ) (h : x < 2 ^ w) (k : y < 2 ^ w) where
  pub and_machine : bit_and x y ≡ and_word w x y
  unfolding and_word
  and_machine = rw (← word_and w (bit_of w x) (bit_of w y), word_bits w x h, word_bits w y k)

  pub or_machine : bit_or x y ≡ or_word w x y
  unfolding or_word
  or_machine = rw (← word-or w (bit_of w x) (bit_of w y), word_bits w x h, word_bits w y k)

left-sum : (m k : ℕ) (f : Bits) → word_of (m + k) (left_bits (m + k) k f) ≡ word_of m (λ i. f (k + i)) * 2 ^ k
unfolding left_bits
left-sum m k f =
    word_split m k (left_bits (m + k) k f)
    ∙ rw (word_ext m (left_bits (m + k) k f) (λ i. f (k + i)) (λ i l. kept i l), word-zero k (λ i. left_bits (m + k) k f (m + i)) (λ i l. gone i)) (add-zero (word_of m (λ i. f (k + i)) * 2 ^ k))
  where
    kept : (i : ℕ) → i < m → left_bits (m + k) k f i ≡ f (k + i)
    kept i l = let h : i + k < m + k = omega arith in simp (lt-ltb _ _ h) (ap f (omega arith))

    gone : (i : ℕ) → left_bits (m + k) k f (m + i) ≡ false
    gone i = let h : m + k ≤ m + i + k = omega arith in simp (le-ltb _ _ h)

left-mod : (m k : ℕ) (f : Bits) → (word_of (k + m) f * 2 ^ k) % 2 ^ (m + k) ≡ word_of m (λ i. f (k + i)) * 2 ^ k
left-mod m k f =
    let h = word_of k f in
    let l = word_of m (λ i. f (k + i)) in
    let e : (h * 2 ^ m + l) * 2 ^ k ≡ h * 2 ^ (m + k) + l * 2 ^ k = rw pow-add (omega arith) in
    rw (word_split k m f, e) (low h (m + k) (shl_lt m k (word_lt m (λ i. f (k + i)))))

word_left : (w k : ℕ) (f : Bits) → k ≤ w → (word_of w f * 2 ^ k) % 2 ^ w ≡ word_of w (left_bits w k f)
word_left w k f h =
    let a : w ≡ (w - k) + k = omega arith in
    let b : k + (w - k) ≡ (w - k) + k = omega arith in
    let e : (word_of ((w - k) + k) f * 2 ^ k) % 2 ^ ((w - k) + k) ≡ word_of ((w - k) + k) (left_bits ((w - k) + k) k f) =
    sym (left-sum (w - k) k f ∙ sym (left-mod (w - k) k f) ∙ ap (λ j. (word_of j f * 2 ^ k) % 2 ^ ((w - k) + k)) b) in
    subst (λ j. (word_of j f * 2 ^ k) % 2 ^ j ≡ word_of j (left_bits j k f)) (sym a) e

right-sum : (m k : ℕ) (f : Bits) → word_of (k + m) (right_bits k f) ≡ word_of m f
unfolding right_bits
right-sum m k f =
    word_split k m (right_bits k f)
    ∙ rw (word-zero k (right_bits k f) gone, word_ext m (λ i. right_bits k f (k + i)) f (λ i l. kept i), zero-mul) (zero-add (word_of m f))
  where
    gone : (i : ℕ) → i < k → right_bits k f i ≡ false
    gone i l = simp (lt-leb _ _ l)

    kept : (i : ℕ) → right_bits k f (k + i) ≡ f i
    kept i = let g : k ≤ k + i = omega arith in simp (le-leb _ _ g) (ap f (omega arith))

word_right : (w k : ℕ) (f : Bits) → k ≤ w → word_of w f / 2 ^ k ≡ word_of w (right_bits k f)
word_right w k f h =
    let a : w ≡ (w - k) + k = omega arith in
    let b : w ≡ k + (w - k) = omega arith in
    sym (ap (λ j. word_of j (right_bits k f)) b ∙ right-sum (w - k) k f ∙ sym (word-div (w - k) k f) ∙ ap (λ j. word_of j f / 2 ^ k) (sym a))

module _ (w k x : ℕ) (h : x < 2 ^ w) where
  pub left_machine : k ≤ w → (x * 2 ^ k) % 2 ^ w ≡ left_word w k x
  unfolding left_word
  left_machine l = rw (← word_left w k (bit_of w x) l, word_bits w x h)

  pub right_machine : k ≤ w → x / 2 ^ k ≡ right_word w k x
  unfolding right_word
  right_machine l = rw (← word_right w k (bit_of w x) l, word_bits w x h)

pub left_none : (w k x : ℕ) → w ≤ k → 0 ≡ left_word w k x
unfolding left_word
left_none w k x h = sym (left_gone w k (bit_of w x) h)

pub right_none : (w k x : ℕ) → w ≤ k → 0 ≡ right_word w k x
unfolding right_word
right_none w k x h = sym (right_gone w k (bit_of w x) h)
