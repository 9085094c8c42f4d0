-- The demands in their own words.
pub mod Rows
pub mod Demand1
pub mod Demand2
pub mod Demand3
pub mod Active
pub mod Readings
pub mod Captures
pub mod SilentChildren
pub mod Boards
