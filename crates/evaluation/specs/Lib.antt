-- What expressions are worth, and what of it their heads say.
pub mod Value
pub mod Combining
