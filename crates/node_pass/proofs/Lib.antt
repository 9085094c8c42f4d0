-- Laws of the pass over the nodes section.
pub mod InstanceLaws
pub mod ListedLaws
pub mod NamesLaws
pub mod NodeLaws
pub mod PassingLaws
pub mod SectionLaws
