-- For any initial buffer, the inner nodes after the first i listed ones are done.
use Rattle.std.proofs.Common.{List, ℕ}
use Rattle.tables.specs.node_tables.inner.InnerNodes.{from}
use Rattle.tables.specs.inner.MapPairs.{Pairs}
use Rattle.tables.proofs.maps.fill_block.Given as goal

abbrev pub invariant-loop-i : goal.invariant-loop-i
invariant-loop-i l =
    (first : List ℕ) → Pairs l.kinds l.labels l.node_table l.inner l.s l.k l.e first l.fn.state_table
    → Pairs l.kinds l.labels l.node_table l.inner l.s l.k (from l.b l.list l.i) first l.state_table
