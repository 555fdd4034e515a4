pub mod BitLaws
pub mod OwnerLaws
pub mod PlaceLoop
pub mod TurnLoop
pub mod TakeLoop
