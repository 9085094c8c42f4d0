-- The laws of the tables of a file, and of the search for an address.
pub mod Again
pub mod FillingLaws
pub mod ElementLaws
pub mod SoughtLaws
pub mod SeekingLaws
pub mod WalkLaws
pub mod SizeLaws
pub mod PartsLaws
pub mod RowsLaws
pub mod RisingLaws
