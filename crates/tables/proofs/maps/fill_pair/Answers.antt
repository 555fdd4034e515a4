-- The children's maps by the table, and taken on where they jump past v.
use Rattle.tables.proofs.PairMaps.{near-pair-args, far-pair-args, near-values, far-values}
use Rattle.tables.proofs.maps.fill_pair.Goals as goal

pub near_pair-requires : goal.near_pair-requires
near_pair-requires c =
    let g = c.args in
    near-pair-args g.labels.now g.node_table.now g.inner.now g.s g.k g.state_table.now g.v c.requires

pub far_pair-requires : goal.far_pair-requires
far_pair-requires c =
    let g = c.args in
    far-pair-args g.labels.now g.node_table.now g.inner.now g.s g.k g.state_table.now g.v c.requires

pub returns-then-node_table-right : goal.returns-then-node_table-right
returns-then-node_table-right c =
    let g = c.args in
    near-values g.labels.now g.node_table.now g.inner.now g.s g.k g.state_table.now g.v c.near_pair.new.state_table
    c.if-node_table-right.true c.near_pair.ensures

pub returns-else-node_table-right : goal.returns-else-node_table-right
returns-else-node_table-right c =
    let g = c.args in
    far-values g.labels.now g.node_table.now g.inner.now g.s g.k g.state_table.now g.v c.far_pair.new.state_table
    c.if-node_table-right.false c.far_pair.ensures
