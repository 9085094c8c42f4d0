-- Cycles of a table of children.
pub mod Cycle
pub mod Ranks
pub mod Order
pub mod Search
