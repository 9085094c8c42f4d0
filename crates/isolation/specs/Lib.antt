-- Isolation of one file with one set of readings.
pub mod Readings
pub mod ChipGraph
pub mod Activity
pub mod Outcome
pub mod Rows
pub mod Samples
pub mod Ready
