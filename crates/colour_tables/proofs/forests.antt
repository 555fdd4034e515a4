pub mod RowCells
pub mod RowLoop
pub mod ColourLoop
