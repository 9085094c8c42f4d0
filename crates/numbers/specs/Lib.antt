-- Numbers: big-endian bytes, and the bits of a word from the left.
pub mod BigEndian
pub mod Bits
pub mod NextBit
pub mod Field
