-- `rows16::row_differences16` meets its contract, by the way its test went.
use mathlib.Core.Path.{◌∙◌}
use lib.Dec.{eqb}
use Rattle.table_checks.proofs.DifferenceLaws.{or-test}
use Rattle.table_checks.proofs.PairStateLaws.{rows-near, rows-joined}
use Rattle.table_checks.proofs.rows16.row_differences16.Goals as goal

pub returns-then-node_table-right : goal.returns-then-node_table-right
returns-then-node_table-right c =
    let g = c.args in
    let a = c.near_differences-a in
    let b = c.near_differences-b in
    or-test a.result b.result
    ∙ rows-near g.node_table.now g.inner.now 16 g.n g.state_table.now g.v g.left g.row
    g.col g.step c.if-node_table-right.true (eqb a.result 0) (eqb b.result 0) a.ensures
    b.ensures

pub returns : goal.returns
returns c =
    let g = c.args in
    let j = c.inside-j in
    let m = c.join_maps in
    let a = c.joined_differences-a in
    let b = c.joined_differences-b in
    or-test a.result b.result
    ∙ rows-joined g.node_table.now g.inner.now 16 g.n g.state_table.now g.v g.left g.row
    g.col g.step c.requires c.if-node_table-right.false j.result j.ensures.0 m.new.joined m.ensures
    (eqb a.result 0) (eqb b.result 0) a.ensures b.ensures
