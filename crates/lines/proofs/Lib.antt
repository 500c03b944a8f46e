-- The lemmas of `lines`.
mod Cutting
mod Reading
