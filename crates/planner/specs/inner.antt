pub mod OutMachine
pub mod HomeMachine
pub mod ImageTests
