pub mod BuildTheorems
pub mod Theorems
pub mod Ties
