pub mod ModelLaws
pub mod Facts
pub mod LayersHold
pub mod SoundLaws
pub mod LeftOpenLaws
pub mod Refinement
