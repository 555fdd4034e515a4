pub mod ScreenCalls
pub mod EightRecords
pub mod Projection
pub mod EightReferences
pub mod Turns
pub mod Statements
pub mod in_place
