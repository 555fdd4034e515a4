pub mod Outputs
pub mod branch_calls
pub mod rule_calls
