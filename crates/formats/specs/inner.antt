pub mod InnerChecks
pub mod Eight
