pub mod BoolLaws
pub mod Choice
pub mod TestLaws
pub mod SliceLaws
pub mod AppendLaws
pub mod LoopLaws
pub mod RowLaws
pub mod CopyLaws
