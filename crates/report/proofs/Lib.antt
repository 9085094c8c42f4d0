-- The laws of the text, of isolation with a readings file, and the samples.
pub mod TextLaws
pub mod DecimalLaws
pub mod LineLaws
pub mod FileLaws
pub mod ListLaws
pub mod SamplesHold
pub mod StationLaws
pub mod BeforeLaws
