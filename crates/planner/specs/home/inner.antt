pub mod Cells
pub mod Runs
