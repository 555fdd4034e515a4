pub mod LocalTables
pub mod PairNodes
pub mod Joins
pub mod PairStates
pub mod PairPlaces
pub mod TwoStates
pub mod Blocks
pub mod Tested
