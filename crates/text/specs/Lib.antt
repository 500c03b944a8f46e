-- The definitions that the contracts of `text` cite.
pub mod Spelling
pub mod Fields
pub mod Reading
pub mod Heads
pub mod Openings
