pub mod Part
pub mod Parts
pub mod Count
