-- The laws of the nodes section.
pub mod NodeLaws
