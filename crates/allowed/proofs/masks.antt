pub mod CellLaws
pub mod UpLoop
pub mod DownLoop
pub mod CallLaws
