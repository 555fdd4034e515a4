pub mod Stack
pub mod Laid
