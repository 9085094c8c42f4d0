-- The laws of the layout, and the samples.
pub mod ParsedLaws
pub mod Spelling
pub mod EveryLaws
pub mod GatheredLaws
pub mod RowLaws
pub mod ExpressionAccepted
pub mod RegistersAccepted
pub mod NodePartsAccepted
pub mod NodeInstancesAccepted
pub mod NodesAccepted
pub mod FileAccepted
pub mod FaultsLaws
pub mod Grouping
pub mod Acceptance
pub mod EncodingLaws
pub mod PositionsLaws
pub mod FindingLaws
pub mod PlacesLaws
pub mod NumberedLaws
pub mod MeaningLaws
pub mod LevelLaws
mod SamplesHold
