pub mod Ties
pub mod AllowedTheorems
