pub mod FillLaws
pub mod BuildLaws
