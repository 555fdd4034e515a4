pub mod Answers
pub mod StateCells
pub mod Climbs
pub mod Replays
pub mod inner
pub mod node_tables
