-- What the station prints.
pub mod Printed
