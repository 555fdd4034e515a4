-- For any initial buffer, the block's leaves and the first i listed inner nodes have their states.
use Rattle.std.proofs.Common.{List, ℕ}
use Rattle.tables.specs.node_tables.inner.InnerNodes.{from}
use Rattle.tables.specs.inner.States.{Runs, RunsTo}
use Rattle.tables.proofs.states.run_block.Given as goal

abbrev pub invariant-loop-i : goal.invariant-loop-i
invariant-loop-i l =
    (first : List ℕ) → Runs l.s l.k l.leaves l.inner l.kinds l.labels l.b first l.fn.state_table
    → RunsTo l.s l.k l.leaves l.inner l.kinds l.labels (from l.b l.list l.i) l.e first l.state_table
