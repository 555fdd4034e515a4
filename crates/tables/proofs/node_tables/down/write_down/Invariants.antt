-- Depths and jumps are written from v on, and no other cell has changed.
use Rattle.tables.proofs.node_tables.DownLoop.{DownsWritten}
use Rattle.tables.proofs.node_tables.down.write_down.Given as goal

abbrev pub invariant-loop-v : goal.invariant-loop-v
invariant-loop-v l = DownsWritten l.n l.v l.fn.node_table l.node_table
