-- What node instances lead to.
pub mod Links
