-- The definitions that the contracts of `windows` cite.
pub mod Intervals
pub mod Ends
pub mod Wanted
pub mod Runs
pub mod Finding
pub mod Window
