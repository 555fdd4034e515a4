pub mod StackLaws
pub mod CloseLoop
pub mod PlaceLoop
pub mod CheckLoop
pub mod LayLoop
pub mod PlanLaws
pub mod OutLaws
