-- `siblings::pair_jump` meets its contract: by the table of lengths below its end, and by the two distances past it.
use Rattle.table_checks.proofs.PairNodeLaws.{pair-by-table, pair-past-table}
use Rattle.table_checks.proofs.siblings.pair_jump.Goals as goal

pub returns-then-d-lt-LAST_LENGTH : goal.returns-then-d-lt-LAST_LENGTH
returns-then-d-lt-LAST_LENGTH c =
    let g = c.args in
    let j = c.inside-j in
    let l = c.jump_length in
    pair-by-table g.n g.node_table.now g.v c.by_length.result j.result l.result j.ensures.0
    c.if-d-lt-LAST_LENGTH.true l.ensures c.by_length.ensures

pub returns : goal.returns
returns c =
    let g = c.args in
    pair-past-table g.n g.node_table.now g.v c.pair_by_distances.result c.if-d-lt-LAST_LENGTH.false
    c.pair_by_distances.ensures
