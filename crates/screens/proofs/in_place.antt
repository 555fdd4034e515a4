pub mod FoundLaws
pub mod BusyLaws
pub mod DealtLaws
pub mod DoneLaws
pub mod LoadAllLaws
pub mod Promised
pub mod RunTheorem
