-- The state bytes of the blocks passed are the run's, and no other byte is changed.
use Rattle.std.proofs.Common.{length, min}
use Rattle.tables.specs.inner.States.{Runs}
use Rattle.tables.proofs.states.run_states.Given as goal

abbrev pub invariant-loop-b : goal.invariant-loop-b
invariant-loop-b l =
    Runs l.s l.k l.leaves l.inner l.kinds l.labels (min l.b (length l.kinds)) l.fn.state_table l.state_table
