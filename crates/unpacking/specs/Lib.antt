-- The records of a chip data file.
pub mod Unpacking
