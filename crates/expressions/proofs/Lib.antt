-- The laws of heads, of openings, of operands in a row, and of the names in an expression.
pub mod HeadLaws
pub mod OpeningLaws
pub mod OperandsLaws
pub mod NamesLaws
