pub mod InPlaceTheorem
pub mod Promised
