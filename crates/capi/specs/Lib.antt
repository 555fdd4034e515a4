pub mod branch_calls
pub mod choice_calls
pub mod list_calls
pub mod numbers
pub mod product_calls
pub mod table_calls
pub mod version
