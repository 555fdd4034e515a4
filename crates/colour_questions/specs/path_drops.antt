pub mod Descended
pub mod inner
