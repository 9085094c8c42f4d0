-- The readings file.
pub mod ReadingsFile
