pub mod Rows
pub mod WordPass
