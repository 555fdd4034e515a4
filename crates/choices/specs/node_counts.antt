pub mod Capped
pub mod Join
