pub mod Home
pub mod inner
