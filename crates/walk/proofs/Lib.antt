-- The laws of the walk.
pub mod First
pub mod Step
pub mod WordsLaws
pub mod Tables
pub mod TouchLaws
pub mod WalkLaws
pub mod StepsLaws
pub mod RunLaws
