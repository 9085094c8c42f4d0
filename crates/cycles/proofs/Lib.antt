-- The laws of cycles of a table of children.
pub mod TestsLaws
pub mod FirstLaws
pub mod CycleLaws
pub mod TableLaws
pub mod RankLaws
pub mod Samples
pub mod OrderLaws
