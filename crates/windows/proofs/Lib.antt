-- The lemmas of `windows`.
pub mod Reach
pub mod Witness
pub mod Wanted
pub mod Finding
pub mod Stored
