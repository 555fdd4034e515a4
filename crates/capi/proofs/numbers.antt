pub mod BuildExportedLaws
pub mod CheckExportedLaws
