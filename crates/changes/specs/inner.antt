pub mod Stored
pub mod LastPlaces
pub mod LastDiffering
