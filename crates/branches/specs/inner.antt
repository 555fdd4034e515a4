pub mod BranchGiven
pub mod BranchTests
pub mod Filled
pub mod Finish
pub mod Maps
