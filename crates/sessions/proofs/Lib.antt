-- The lemmas of `sessions`.
pub mod Answering
