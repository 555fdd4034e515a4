pub mod CarryLoop
pub mod SideLaws
pub mod CappedSums
pub mod ForkLaws
pub mod LimitLoop
pub mod ForkSums
pub mod RootLaws
