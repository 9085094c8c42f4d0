-- The walk over a graph that two tables give.
pub mod Marks
pub mod TableGraph
pub mod Steps
pub mod Fold
