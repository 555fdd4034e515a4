pub mod Probed
pub mod EightProbed
