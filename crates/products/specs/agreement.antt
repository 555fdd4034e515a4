pub mod Lines
pub mod Agreement
pub mod Search
pub mod Answer
pub mod Reply
pub mod reachable
