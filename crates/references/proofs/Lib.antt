-- The laws of faults by tables.
pub mod JudgingLaws
pub mod PartsLaws
pub mod TablesLaws
pub mod ScanLaws
pub mod RootsLaws
pub mod CapturesLaws
pub mod LinkingLaws
