-- The laws of the roots section and of a whole file.
pub mod RootLaws
pub mod LayoutLaws
pub mod WholeLaws
pub mod NameLaws
pub mod FaultsLaws
pub mod CycleLaws
pub mod ExamineLaws
pub mod AddressLaws
pub mod ChildPlacesLaws
pub mod ColumnsLaws
pub mod ExaminedLaws
pub mod ClassesLaws
pub mod WantedLaws
