pub mod Siblings
pub mod File
pub mod Conversion
pub mod inner
pub mod home
pub mod out
