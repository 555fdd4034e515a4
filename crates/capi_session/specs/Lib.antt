pub mod DecodedAnswers
pub mod SessionExported
pub mod Stored
