-- The laws of the registers section.
pub mod RegisterLaws
