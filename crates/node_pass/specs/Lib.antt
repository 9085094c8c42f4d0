-- What one pass over the nodes section gives, and what is kept of the section.
pub mod Passed
pub mod Section
