-- How many assignments end in each state: definitions (specs/) and their laws (proofs/).
pub mod Assignments
pub mod Sums
pub mod PartCounts
pub mod inner
