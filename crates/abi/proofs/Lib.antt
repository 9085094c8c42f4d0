-- The laws of answers as lists.
pub mod ValuesLaws
