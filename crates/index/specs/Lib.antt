-- The tables of a file, and the search for an address.
pub mod Rows
pub mod Columns
pub mod Sought
