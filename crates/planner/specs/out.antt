pub mod Out
pub mod inner
