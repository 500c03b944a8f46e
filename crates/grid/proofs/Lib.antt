-- The lemmas of `grid`.
pub mod ExtremeLemmas
pub mod Edges
pub mod Rules
pub mod Marked
