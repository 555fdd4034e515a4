pub mod Question
pub mod Promise
pub mod OutOfRange
pub mod inner
