-- The inner nodes and the leaves passed are listed.
use Rattle.table_checks.specs.inner.Blocks.{BothListed}
use Rattle.table_checks.proofs.blocks.list_block.Given as goal

abbrev pub invariant-loop-v : goal.invariant-loop-v
invariant-loop-v l = BothListed l.kinds l.b l.v l.c l.list l.leaf_list
