-- The laws of the names in an expression and their faults, and of names that fit.
pub mod JudgedLaws
pub mod FitLaws
pub mod FitRowsLaws
