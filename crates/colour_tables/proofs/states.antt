pub mod RowLoop
pub mod CopyLoop
pub mod WordLoop
