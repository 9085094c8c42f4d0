-- The laws of unpacking.
pub mod Steps
pub mod ExpressionRuns
pub mod NodeRuns
pub mod RegisterRuns
pub mod FineParts
pub mod UnpackingLaws
pub mod LoopLaws
pub mod OutputLaws
