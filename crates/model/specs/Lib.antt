pub mod Calls
pub mod Refusals
pub mod Sound
pub mod Model
pub mod LeftOpen
pub mod History
