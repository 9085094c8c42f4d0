-- The laws of tables of numbers, and of faults in a row.
pub mod TablesLaws
pub mod ColumnLaws
pub mod FaultsLaws
pub mod KeysLaws
pub mod KindsLaws
pub mod WritingLaws
pub mod IndexedLaws
