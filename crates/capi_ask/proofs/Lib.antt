pub mod Theorems
pub mod Ties
