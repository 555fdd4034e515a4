pub mod Merged
pub mod Writes
pub mod Answer
pub mod BranchBytes
