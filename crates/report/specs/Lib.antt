pub mod Text
pub mod Report
pub mod Samples
pub mod Before
