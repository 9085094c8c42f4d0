-- The laws of writing and reading records: the parts of the calls, the sentences of document 02 (ii), and the calls.
pub mod CopyLaws
pub mod OutputLaws
pub mod AnswerLaws
pub mod BuildingLaws
pub mod FrontLaws
pub mod OwedFirstLaws
pub mod WrongLaws
pub mod WriteLaws
pub mod RoundTripLaws
pub mod CallLaws
pub mod SamplesHold
