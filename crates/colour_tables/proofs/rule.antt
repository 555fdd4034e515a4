pub mod BuildLaws
pub mod CheckAnswers
pub mod ColouredLaws
pub mod FillLaws
pub mod TableLaws
