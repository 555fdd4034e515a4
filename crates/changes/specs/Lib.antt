pub mod Entries
pub mod LayOver
pub mod ChangedPlan
pub mod Differing
pub mod inner
