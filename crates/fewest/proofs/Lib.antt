pub mod Theorems
pub mod costs
