-- The inner nodes passed are listed.
use Rattle.tables.specs.node_tables.inner.InnerNodes.{Listed}
use Rattle.tables.proofs.node_tables.blocks.list_inner.Given as goal

abbrev pub invariant-loop-v : goal.invariant-loop-v
invariant-loop-v l = Listed l.kinds l.b l.v l.c l.list
