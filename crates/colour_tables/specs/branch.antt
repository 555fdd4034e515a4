pub mod Build
pub mod inner
