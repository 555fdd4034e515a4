-- Sizes and parents are right as far as the pass has come.
use Rattle.tables.proofs.node_tables.CheckLoop.{UpsTo}
use Rattle.tables.proofs.node_tables.check.check_up.Given as goal

abbrev pub invariant-loop-v : goal.invariant-loop-v
invariant-loop-v l = UpsTo l.kinds l.v l.node_table
