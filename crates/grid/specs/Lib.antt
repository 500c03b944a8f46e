-- The definitions that the contracts of `grid` cite.
pub mod Limits
pub mod Vectors
pub mod Words
pub mod Keys
pub mod Extremes
pub mod Parts
pub mod KeyRule
pub mod MarkedKeys
