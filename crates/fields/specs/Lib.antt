-- What the answers stand for, and what is kept of the elements before.
pub mod Views
pub mod Seen
pub mod Rising
