-- The definitions that the contracts of `plans` cite.
pub mod Ranges
pub mod Plan
pub mod Planning
pub mod MarkedLines
