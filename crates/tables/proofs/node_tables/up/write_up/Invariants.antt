-- Sizes and parents are written as far as the pass has come, and no other cell has changed.
use Rattle.tables.proofs.node_tables.UpLoop.{UpsWritten}
use Rattle.tables.proofs.node_tables.up.write_up.Given as goal

abbrev pub invariant-loop-v : goal.invariant-loop-v
invariant-loop-v l = UpsWritten l.kinds l.v l.fn.node_table l.node_table
