-- What the answers about nodes stand for.
pub mod Nodes
