-- `inner_matches` meets its contract, by the way each test went.
use Rattle.std.proofs.Common.{eq-eqb, ne_eqb, ◌∙◌}
use Rattle.tables.specs.node_tables.inner.CheckPass.{inner_matches}
use Rattle.tables.proofs.node_tables.check.inner_matches.Goals as goal

pub returns-then-node_table-v : goal.returns-then-node_table-v
unfolding inner_matches
returns-then-node_table-v c = rw (← c.inner_size.ensures, ne_eqb _ _ c.if-node_table-v.true)

pub returns-then-node_table-right : goal.returns-then-node_table-right
unfolding inner_matches
returns-then-node_table-right c =
    let e = c.if-node_table-v.false ∙ c.inner_size.ensures in
    rw (eq-eqb _ _ e, ne_eqb _ _ c.if-node_table-right.true)

pub returns : goal.returns
unfolding inner_matches
returns c =
    let e = c.if-node_table-v.false ∙ c.inner_size.ensures in
    rw (eq-eqb _ _ e, eq-eqb _ _ c.if-node_table-right.false, c.left_child-left.ensures)
