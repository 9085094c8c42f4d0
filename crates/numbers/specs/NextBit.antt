-- The next bit of a word, the word without it, and a word with a bit. Document 02 (iv): "the next active bit, the least not yet taken".
use Rattle.std.specs.Prelude.{ℕ, zero, suc, ◌≤◌, ◌<◌, true, false, cond, not, ◌&&◌, ◌||◌, ◌≡◌, eqb}
use Rattle.numbers.specs.Bits.{Bits, bit_of, word_of}

-- r is the least of the bits 0 to w - 1 that is set, or w where none is, said without computing it.
pub record Least (w : ℕ) (f : Bits) (r : ℕ) : Type 0 where
  pub most : r ≤ w
  pub set : r < w → f r ≡ true
  pub before : (k : ℕ) → k < r → f k ≡ false

-- The same, computed.
unfoldable pub least_bit : ℕ → Bits → ℕ
least_bit zero f = zero
least_bit (suc w) f = cond (f zero) zero (suc (least_bit w (λ i. f (suc i))))

-- All bits but bit k.
unfoldable pub other_bits : ℕ → Bits → Bits
other_bits k f i = not (eqb i k) && f i

-- The next bit of a word of w bits that has the bits not yet taken: the least of them, or w where none is left.
unfoldable pub next_bit : ℕ → ℕ → ℕ
next_bit w x = least_bit w (bit_of w x)

-- The word without its next bit.
unfoldable pub without_next : ℕ → ℕ → ℕ
without_next w x = word_of w (other_bits (next_bit w x) (bit_of w x))

-- The word with bit k set.
unfoldable pub with_bit : ℕ → ℕ → ℕ → ℕ
with_bit w k x = word_of w (λ i. eqb i k || bit_of w x i)
