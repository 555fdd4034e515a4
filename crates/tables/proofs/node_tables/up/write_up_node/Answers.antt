-- `write_up_node` meets its contract: the right child's parent is written first.
use Rattle.tables.proofs.node_tables.UpLoop.{right-first}
use Rattle.tables.proofs.node_tables.up.write_up_node.Goals as goal

pub returns : goal.returns
returns c =
    let a = c.args in
    right-first a.node_table.now a.v a.c
