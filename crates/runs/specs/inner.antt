pub mod Listed
pub mod Pass
