pub mod GivenLaws
pub mod ChangedLaws
pub mod ClearingLaws
pub mod Theorems
pub mod StepLaws
pub mod InputsLaws
