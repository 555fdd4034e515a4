pub mod CellLaws
pub mod ReleaseLoop
pub mod ReadLoop
pub mod CheckLoop
pub mod HomeLaws
