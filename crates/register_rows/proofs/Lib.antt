-- The laws of the registers section.
pub mod ListedLaws
pub mod RisingLaws
pub mod SectionLaws
