pub mod SetLaws
pub mod BitLaws
