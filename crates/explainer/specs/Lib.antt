-- The definitions that the contracts of `explainer` cite.
pub mod Written
pub mod Explaining
