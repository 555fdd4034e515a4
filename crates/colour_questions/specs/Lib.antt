pub mod branch
pub mod parts
pub mod path_drops
pub mod rule
pub mod target_states
