pub mod FreshRun
pub mod inner
