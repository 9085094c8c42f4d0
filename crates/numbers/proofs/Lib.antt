-- The laws of numbers, bits and fields.
pub mod BigEndianLaws
pub mod BitsLaws
pub mod NextBitLaws
pub mod TakenLaws
pub mod Bools
pub mod FieldLaws
mod Samples
