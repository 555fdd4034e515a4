pub mod UpLaws
pub mod DownLaws
pub mod StepLaws
pub mod SetLoop
