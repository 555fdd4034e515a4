pub mod DescentBounds
pub mod TrialLoop
