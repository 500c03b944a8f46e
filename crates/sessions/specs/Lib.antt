-- The definitions that the contracts of `sessions` cite.
pub mod Tallies
pub mod Commands
pub mod Sessions
pub mod Histories
