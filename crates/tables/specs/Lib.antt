-- Tables of numbers, names and kinds, and what is wrong with a name by them.
pub mod Tables
pub mod Keys
pub mod Kinds
pub mod Faults
pub mod Indexed
