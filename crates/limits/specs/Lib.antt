-- The limits of a chip data file.
pub mod Limits
pub mod Classes
