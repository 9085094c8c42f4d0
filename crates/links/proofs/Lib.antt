-- The laws of what node instances lead to.
pub mod RowLaws
pub mod PassedLaws
pub mod LinksLaws
pub mod ChildrenLaws
pub mod TableLaws
