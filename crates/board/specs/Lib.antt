-- Isolation of a board of chips.
pub mod Board
pub mod Rows
pub mod Samples
