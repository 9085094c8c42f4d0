-- The laws of tests below n and of paths.
pub mod BelowLaws
pub mod PathsLaws
pub mod ChainsLaws
pub mod EndsLaws
mod SamplesHold
