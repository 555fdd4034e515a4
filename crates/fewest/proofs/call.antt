pub mod CallLaws
pub mod Promise
pub mod EarlyLaws
