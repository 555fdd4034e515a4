pub mod ExportCases
pub mod Theorems
pub mod Ties
