-- The laws of the readings file.
pub mod RecordLaws
pub mod DecodedLaws
pub mod RoundTripLaws
pub mod ChipLaws
