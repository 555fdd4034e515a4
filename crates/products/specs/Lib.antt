pub mod Product
pub mod Plans
pub mod agreement
pub mod merging
