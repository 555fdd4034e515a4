pub mod BuiltLaws
pub mod LayoutLaws
pub mod RangeLaws
pub mod InRange
