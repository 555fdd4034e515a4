pub mod Question
pub mod OutOfRange
pub mod Promise
pub mod inner
