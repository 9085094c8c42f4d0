-- Expressions as heads with operands.
pub mod Heads
pub mod Names
pub mod Openings
