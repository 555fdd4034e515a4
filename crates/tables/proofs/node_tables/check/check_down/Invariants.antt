-- Depths and jumps are right from v on.
use Rattle.tables.proofs.node_tables.CheckLoop.{DownsFrom}
use Rattle.tables.proofs.node_tables.check.check_down.Given as goal

abbrev pub invariant-loop-v : goal.invariant-loop-v
invariant-loop-v l = DownsFrom l.n l.v l.node_table
