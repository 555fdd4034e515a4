pub mod Allowed
pub mod Clearing
pub mod Answers
pub mod inner
