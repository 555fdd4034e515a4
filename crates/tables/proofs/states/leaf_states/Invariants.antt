-- The nodes below v have their states as leaves, and no other byte is changed.
use Rattle.tables.specs.inner.States.{Leaves}
use Rattle.tables.proofs.states.leaf_states.Given as goal

abbrev pub invariant-loop-v : goal.invariant-loop-v
invariant-loop-v l = Leaves l.s l.leaves l.labels l.b l.v l.fn.state_table l.state_table
