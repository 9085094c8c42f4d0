-- The laws of the listing, of its words and of writing it.
pub mod RowsLaws
pub mod WordLaws
pub mod KeptLaws
pub mod WriteLaws
pub mod PassLaws
