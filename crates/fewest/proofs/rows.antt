pub mod RowLaws
pub mod ImageLaws
