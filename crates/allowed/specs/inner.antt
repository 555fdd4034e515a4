pub mod Inputs
pub mod Sets
pub mod masks
pub mod clearing
