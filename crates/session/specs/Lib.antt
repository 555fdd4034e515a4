pub mod Records
pub mod Answers
pub mod Promises
pub mod CallsByValue
pub mod inner
pub mod in_place
