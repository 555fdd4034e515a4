pub mod NumberLaws
pub mod NumberLoop
pub mod RunLaws
pub mod ByteTests
pub mod Theorems
pub mod Types
pub mod ValidTypes
pub mod Controls
