-- Chip data files written from records, and read into them.
pub mod Writing
pub mod Building
pub mod RoundTrips
pub mod Samples
