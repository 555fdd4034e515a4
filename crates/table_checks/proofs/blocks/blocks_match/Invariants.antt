-- The nodes of the blocks passed match.
use Rattle.std.proofs.Common.{◌-◌, ◌≤◌, length}
use Rattle.table_checks.specs.inner.Blocks.{Nodes}
use Rattle.table_checks.proofs.blocks.blocks_match.Given as goal

abbrev pub invariant-loop-b : goal.invariant-loop-b
invariant-loop-b l =
    (l.b ≤ length l.kinds) × Nodes l.kinds l.labels l.node_table l.leaves l.inner l.s l.k l.state_table 0 l.b

abbrev pub decreases-loop-b : goal.decreases-loop-b
decreases-loop-b l = length l.kinds - l.b
