-- The inner nodes from block i on are done.
use Rattle.std.proofs.Common.{◌*◌}
use Rattle.tables.specs.inner.MapPairs.{Pairs}
use Rattle.tables.proofs.maps.fill_maps.Given as goal

abbrev pub invariant-loop-i : goal.invariant-loop-i
invariant-loop-i l =
    Pairs l.kinds l.labels l.node_table l.inner l.s l.k (l.i * 1024) l.fn.state_table l.state_table
