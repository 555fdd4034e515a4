pub mod TrialLaws
pub mod SideCases
pub mod ForkCases
pub mod TriesBuilt
pub mod PartUsable
pub mod TrialsBuilt
pub mod SideLaws
