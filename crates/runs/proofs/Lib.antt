pub mod ListedLaws
pub mod ChangeLaws
pub mod StackLaws
pub mod PassLoop
pub mod OrderLaws
pub mod RunLaws
