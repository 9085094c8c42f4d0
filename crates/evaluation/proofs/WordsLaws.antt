-- The operations on words that are made of bits. Every law holds at each width.
use Prim.Native.Nat.{ℕ, ◌+◌, ◌-◌, ◌<◌}
use mathlib.Core.Bool.{Bool, true, false, not, ◌&&◌}
use mathlib.Core.Path.{◌≡◌, refl, ap}
use native.Mathlib.Omega.{arith}
use lib.Dec.{ltb}
use borrow.Author.Tests.{ltb-true}
use Rattle.numbers.specs.Bits.{Bits, word_of, bit_of, not_bits, and_bits, or_bits, left_bits, right_bits, not_word, and_word, or_word, left_word, right_word}
use Rattle.numbers.proofs.BitsLaws.{word_ext, bit-word}

module _ (w : ℕ) (f : Bits) where
  pub not_of : not_word w (word_of w f) ≡ word_of w (not_bits f)
  unfolding not_word not_bits
  not_of = word_ext w (not_bits (bit_of w (word_of w f))) (not_bits f) (λ i h. ap not (bit-word w f i h))

  pub left-of : (k : ℕ) → left_word w k (word_of w f) ≡ word_of w (left_bits w k f)
  unfolding left_word left_bits
  left-of k = word_ext w (left_bits w k (bit_of w (word_of w f))) (left_bits w k f) (λ i h. go i (ltb (i + k) w) refl)
    where
      go : (i : ℕ) (t : Bool) → ltb (i + k) w ≡ t → (t && bit_of w (word_of w f) (i + k)) ≡ (t && f (i + k))
      go i true e = bit-word w f (i + k) (ltb-true _ _ e)
      go i false e = refl

  pub right_of : (k : ℕ) → right_word w k (word_of w f) ≡ word_of w (right_bits k f)
  unfolding right_word right_bits
  right_of k =
      word_ext w (right_bits k (bit_of w (word_of w f))) (right_bits k f) (λ i h. let l : i - k < w = omega arith in rw (bit-word w f (i - k) l))

module _ (w : ℕ) (f g : Bits) where
  pub and_of : and_word w (word_of w f) (word_of w g) ≡ word_of w (and_bits f g)
  unfolding and_word and_bits
  and_of = word_ext w (and_bits (bit_of w (word_of w f)) (bit_of w (word_of w g))) (and_bits f g) (λ i h. rw (bit-word w f i h, bit-word w g i h))

  pub or_of : or_word w (word_of w f) (word_of w g) ≡ word_of w (or_bits f g)
  unfolding or_word or_bits
  or_of = word_ext w (or_bits (bit_of w (word_of w f)) (bit_of w (word_of w g))) (or_bits f g) (λ i h. rw (bit-word w f i h, bit-word w g i h))
