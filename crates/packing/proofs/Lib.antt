-- The laws of packing.
pub mod ElementLaws
pub mod PartLaws
pub mod PackingLaws
pub mod BackLaws
pub mod OwnLaws
pub mod SizeLaws
pub mod MeasureLaws
pub mod NearLaws
pub mod BackwardLaws
pub mod FileLaws
pub mod OutputLaws
