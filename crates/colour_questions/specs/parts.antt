pub mod Part
pub mod OneSided
pub mod inner
pub mod Sides
pub mod Searches
pub mod Trials
