-- The laws of a board's answer.
pub mod JoinLaws
pub mod SumsLaws
pub mod SlotsLaws
pub mod BoardLaws
pub mod SamplesHold
