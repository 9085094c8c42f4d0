-- The laws of isolation, and the samples.
pub mod HeadLaws
pub mod GraphsLaws
pub mod ChipLaws
pub mod OutcomeLaws
pub mod ActivityLaws
pub mod TablesLaws
pub mod UnreadLaws
pub mod AnswerLaws
pub mod SamplesHold
pub mod SettleLaws
pub mod ReachLaws
pub mod RootLaws
pub mod ClassesLaws
pub mod WrittenLaws
pub mod FoundLaws
