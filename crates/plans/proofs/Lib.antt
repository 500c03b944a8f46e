-- The lemmas of `plans`.
pub mod Ranges
mod Cells
mod Merging
mod Gaining
mod Placed
pub mod Listed
pub mod Agree
mod Marked
