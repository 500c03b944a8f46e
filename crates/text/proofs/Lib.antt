-- The lemmas of `text`.
mod Digits
mod Signs
pub mod FieldLemmas
