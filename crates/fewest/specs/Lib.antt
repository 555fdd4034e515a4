pub mod Relabelling
pub mod Least
pub mod Fewest
pub mod inner
pub mod Answers
