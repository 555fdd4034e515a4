-- `down_matches` meets its contract, by the way each test went.
use Rattle.std.proofs.Common.{eq-eqb, ne_eqb}
use Rattle.tables.specs.node_tables.inner.CheckPass.{down_matches}
use Rattle.tables.proofs.node_tables.check.down_matches.Goals as goal

pub returns-then-node_table-v : goal.returns-then-node_table-v
unfolding down_matches
returns-then-node_table-v c = rw (ne_eqb _ _ c.if-node_table-v.true)

pub returns : goal.returns
unfolding down_matches
returns c = rw (eq-eqb _ _ c.if-node_table-v.false, c.child_jump.ensures)
