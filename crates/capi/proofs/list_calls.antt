pub mod ExportCases
pub mod Ties
