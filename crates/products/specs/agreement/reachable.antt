pub mod SearchRecord
