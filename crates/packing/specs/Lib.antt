-- A chip data file from its records.
pub mod Packing
pub mod Writing
