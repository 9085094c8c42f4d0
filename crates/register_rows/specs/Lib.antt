-- What the section's functions say of a reading that may have been too much for a short list.
pub mod Told
