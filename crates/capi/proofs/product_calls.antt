pub mod LineLaws
pub mod ExportLaws
pub mod Theorems
pub mod Ties
