pub mod CappedLaws
pub mod AccumulateLoop
pub mod JoinLoop
