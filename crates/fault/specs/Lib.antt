-- The definitions that the contracts of `fault` cite.
pub mod Numbers
pub mod Checks
