pub mod Cells
pub mod Up
pub mod Down
