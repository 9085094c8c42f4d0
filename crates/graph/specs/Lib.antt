-- Directed graphs on the numbers below n.
pub mod Below
pub mod Paths
pub mod Chains
pub mod Samples
