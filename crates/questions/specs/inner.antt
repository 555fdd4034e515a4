pub mod Gaps
pub mod PartArgs
pub mod Scans
pub mod SearchAnswers
