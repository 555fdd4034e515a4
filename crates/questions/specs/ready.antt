-- The partition-ready set of a question and the state of each of its parts, as definitions (specs/) and their laws (proofs/).
pub mod Ready
pub mod Members
pub mod Parts
pub mod Partition
pub mod StaysInside
pub mod RunGiven
