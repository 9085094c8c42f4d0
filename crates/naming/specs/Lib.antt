-- Registers that fit.
pub mod Fits
