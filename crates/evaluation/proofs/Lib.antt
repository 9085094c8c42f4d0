-- The laws of an expression's value.
pub mod WordsLaws
pub mod ValueLaws
