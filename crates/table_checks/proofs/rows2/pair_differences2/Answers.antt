-- `rows2::pair_differences2` meets its contract.
use native.Mathlib.Omega.{arith}
use Rattle.table_checks.proofs.PairStateLaws.{rows-args-of, pair_is, step_small}
use Rattle.table_checks.proofs.rows2.pair_differences2.Goals as goal

pub overflow_mul-k : goal.overflow_mul-k
overflow_mul-k c =
    let g = c.args in
    omega (
      arith,
      step_small g.labels.now g.node_table.now g.leaves.now g.inner.now 2 g.k g.n
          g.state_table.now c.requires.table,
    )

pub row_differences2-rows-requires : goal.row_differences2-rows-requires
row_differences2-rows-requires c =
    let g = c.args in
    let p = c.pair_at-pair in
    rows-args-of g.labels.now g.node_table.now g.leaves.now g.inner.now 2 g.k g.n
    g.state_table.now c.requires.table g.v c.requires.pos c.requires.inside p.result.left p.result.row
    p.result.col p.ensures.left_is p.ensures.row_is p.ensures.col_is

pub returns : goal.returns
returns c =
    let g = c.args in
    let p = c.pair_at-pair in
    let r = c.row_differences2-rows in
    pair_is g.labels.now g.node_table.now g.leaves.now g.inner.now 2 g.k g.n
    g.state_table.now c.requires.table g.v c.requires.pos c.requires.inside p.result.left p.result.row
    p.result.col p.result.state p.ensures r.result r.ensures
