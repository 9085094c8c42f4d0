-- Faults and roots by the tables of a file.
pub mod FaultsIn
pub mod RootIn
