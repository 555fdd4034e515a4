pub mod DecodedAnswersLaws
pub mod SessionExportedLaws
pub mod StepBytes
pub mod ExportedRefines
pub mod ExportedTheorem
pub mod Ties
