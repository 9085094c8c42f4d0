-- The records of a chip data file (document 02 (ii), with the fields of docs/RECORDS.md).
pub mod Record
pub mod Elements
pub mod Grammar
pub mod Sizes
pub mod Judging
pub mod Planting
pub mod Fits
pub mod Ranks
