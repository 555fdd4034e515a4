pub mod Promise
pub mod inner
pub mod assignments
pub mod node_counts
pub mod part_steps
pub mod question_counts
