pub mod Cells
pub mod NodeCells
pub mod JumpLengths
pub mod OutOfRange
pub mod inner
