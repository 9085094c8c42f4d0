-- The laws of readings, fields, marks and rows.
pub mod Parsing
pub mod Steps
pub mod FieldLaws
pub mod SeenLaws
pub mod RowLaws
pub mod ReadingLaws
