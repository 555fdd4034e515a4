-- The laws of sets of states as numbers, from crate state_sets.
pub use Rattle.state_sets.proofs.SetLaws.{member-zero, member-suc, set_of-below, member-set_of, member-single}
