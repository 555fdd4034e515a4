pub mod Carry
pub mod Side
pub mod Fork
pub mod Root
