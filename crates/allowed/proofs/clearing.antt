pub mod FirstLaws
pub mod UpLoop
pub mod DownLoop
pub mod CallLaws
