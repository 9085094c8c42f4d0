-- The laws of the limits.
pub mod LimitsLaws
