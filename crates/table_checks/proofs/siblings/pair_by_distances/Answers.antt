-- `siblings::pair_by_distances` meets its contract.
use Rattle.table_checks.proofs.PairNodeLaws.{jump-far, jump-near}
use Rattle.table_checks.proofs.siblings.pair_by_distances.Goals as goal

pub returns-then-d-f : goal.returns-then-d-f
returns-then-d-f c =
    let g = c.args in
    let j = c.inside-j in
    let f = c.inside-far in
    jump-far g.n g.node_table.now g.v j.result f.result j.ensures.0 f.ensures.0 c.if-d-f.true

pub returns-else-d-f : goal.returns-else-d-f
returns-else-d-f c =
    let g = c.args in
    let j = c.inside-j in
    let f = c.inside-far in
    jump-near g.n g.node_table.now g.v j.result f.result j.ensures.0 f.ensures.0 c.if-d-f.false
