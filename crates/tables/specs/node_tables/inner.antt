pub mod CheckPass
pub mod DownPass
pub mod InnerNodes
pub mod MoveAnswers
pub mod UpPass
