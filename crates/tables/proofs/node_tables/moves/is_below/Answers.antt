-- `is_below` meets its contract.
use Rattle.tables.proofs.node_tables.MoveCases.{below-no, below-yes}
use Rattle.tables.proofs.node_tables.moves.is_below.Goals as goal

pub returns-then-c-v : goal.returns-then-c-v
returns-then-c-v c = let a = c.args in below-no a.node_table.now a.c a.v c.if-c-v.true

pub returns : goal.returns
returns c =
    let a = c.args in
    below-yes a.node_table.now a.c a.v c.size_at.result c.size_at.ensures c.if-c-v.false
