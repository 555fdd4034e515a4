pub mod SearchLoop
pub mod DropCases
pub mod DescendLoop
pub mod DescendedLaws
pub mod Theorems
