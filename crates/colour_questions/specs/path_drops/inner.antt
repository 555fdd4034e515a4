pub mod Search
pub mod Drops
