-- What the answers about registers stand for.
pub mod Registers
