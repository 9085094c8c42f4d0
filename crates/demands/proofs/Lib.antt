-- The demands hold.
pub mod RowsLaws
pub mod ListingLaws
pub mod ReachedLaws
pub mod ActiveLaws
pub mod Demand1
pub mod Demand2
pub mod Demand3
pub mod Readings
pub mod Captures
pub mod AcyclicLaws
pub mod SilentChildren
pub mod SlotLaws
pub mod Boards
