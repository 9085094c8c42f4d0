-- What the answers about a whole file stand for.
pub mod Roots
pub mod Layout
pub mod Columns
pub mod Entries
pub mod Examined
pub mod Classes
