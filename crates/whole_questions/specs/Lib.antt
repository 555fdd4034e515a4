pub mod Question
pub mod Promise
pub mod inner
