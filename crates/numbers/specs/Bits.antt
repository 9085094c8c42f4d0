-- The bits of a word of w bits. Document 01: "bit 0 leftmost, 63 rightmost".
use Rattle.std.specs.Prelude.{ℕ, zero, suc, ◌+◌, ◌-◌, ◌*◌, ◌/◌, ◌%◌, ◌^◌, Bool, true, false, not, ◌&&◌, ◌||◌, ltb, leb, eqb}

-- A Bool for each bit number, bit 0 leftmost.
abbrev pub Bits : Type 0
Bits = ℕ → Bool

-- Bit i of the word x, counted from the left; a word of w bits has no bit w.
unfoldable pub bit_of : ℕ → ℕ → Bits
bit_of w x i = ltb i w && eqb (x / 2 ^ (w - 1 - i) % 2) 1

-- A bit as a number.
abbrev pub digit : Bool → ℕ
digit true = 1
digit false = 0

-- The word made of the bits 0 to w - 1.
unfoldable pub word_of : ℕ → Bits → ℕ
word_of zero f = 0
word_of (suc w) f = word_of w f * 2 + digit (f w)

-- NOT: every bit is inverted.
unfoldable pub not_bits : Bits → Bits
not_bits f i = not (f i)

-- AND: a bit is set where both are.
unfoldable pub and_bits : Bits → Bits → Bits
and_bits f g i = f i && g i

-- OR: a bit is set where one is.
unfoldable pub or_bits : Bits → Bits → Bits
or_bits f g i = f i || g i

-- A left shift by k in a word of w bits: bit i is bit i + k, and 0 where the word has no such bit.
unfoldable pub left_bits : ℕ → ℕ → Bits → Bits
left_bits w k f i = ltb (i + k) w && f (i + k)

-- A right shift by k: bit i is bit i - k, and 0 where there is none.
unfoldable pub right_bits : ℕ → Bits → Bits
right_bits k f i = leb k i && f (i - k)

-- The same five on words of w bits.
unfoldable pub not_word : ℕ → ℕ → ℕ
not_word w x = word_of w (not_bits (bit_of w x))

unfoldable pub and_word : ℕ → ℕ → ℕ → ℕ
and_word w x y = word_of w (and_bits (bit_of w x) (bit_of w y))

unfoldable pub or_word : ℕ → ℕ → ℕ → ℕ
or_word w x y = word_of w (or_bits (bit_of w x) (bit_of w y))

unfoldable pub left_word : ℕ → ℕ → ℕ → ℕ
left_word w k x = word_of w (left_bits w k (bit_of w x))

unfoldable pub right_word : ℕ → ℕ → ℕ → ℕ
right_word w k x = word_of w (right_bits k (bit_of w x))
