-- Document 01 and source document 000, 5.1.5.2: a NOT, and one pair of shifts at two widths. Document 02 (iv): the bits of a word one after another, with the first and the last.
use mathlib.Core.Path.{◌≡◌, refl}
use Rattle.numbers.specs.Bits.{word_of, bit_of, not_bits, left_bits, right_bits, not_word, left_word, right_word}
use Rattle.numbers.specs.NextBit.{least_bit, other_bits, next_bit, without_next}

not_ff : not_word 64 0xff ≡ 0xffff_ffff_ffff_ff00
unfolding not_word word_of not_bits bit_of
not_ff = refl

shifts_64 : right_word 64 8 (left_word 64 8 0xffff) ≡ 0xffff
unfolding right_word left_word word_of right_bits left_bits bit_of
shifts_64 = refl

shifts_16 : right_word 16 8 (left_word 16 8 0xffff) ≡ 0x00ff
unfolding right_word left_word word_of right_bits left_bits bit_of
shifts_16 = refl

first_bit : next_bit 64 0x8000_0000_0000_0005 ≡ 0
unfolding next_bit least_bit bit_of
first_bit = refl

without_first : without_next 64 0x8000_0000_0000_0005 ≡ 5
unfolding without_next next_bit least_bit other_bits word_of bit_of
without_first = refl

second-bit : next_bit 64 5 ≡ 61
unfolding next_bit least_bit bit_of
second-bit = refl

without_second : without_next 64 5 ≡ 1
unfolding without_next next_bit least_bit other_bits word_of bit_of
without_second = refl

last_bit : next_bit 64 1 ≡ 63
unfolding next_bit least_bit bit_of
last_bit = refl

without_last : without_next 64 1 ≡ 0
unfolding without_next next_bit least_bit other_bits word_of bit_of
without_last = refl

no-bit : next_bit 64 0 ≡ 64
unfolding next_bit least_bit bit_of
no-bit = refl
