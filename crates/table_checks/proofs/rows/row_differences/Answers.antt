-- `rows::row_differences` meets its contract, by the way its test went.
use Prim.Native.Nat.{ℕ, ◌-◌}
use mathlib.Core.Path.{sym, subst, ◌∙◌}
use lib.Dec.{eqb}
use Rattle.table_checks.specs.inner.PairStates.{FarEntryArgs}
use Rattle.table_checks.proofs.DifferenceLaws.{or-test}
use Rattle.table_checks.proofs.PairStateLaws.{far-right, far-left, rows-near, rows-far}
use Rattle.table_checks.proofs.rows.row_differences.Goals as goal

pub returns-then-node_table-right : goal.returns-then-node_table-right
returns-then-node_table-right c =
    let g = c.args in
    let a = c.near_differences-a in
    let b = c.near_differences-b in
    or-test a.result b.result
    ∙ rows-near g.node_table.now g.inner.now g.s g.n g.state_table.now g.v g.left g.row
    g.col g.step c.if-node_table-right.true (eqb a.result 0) (eqb b.result 0) a.ensures
    b.ensures

pub far_differences-a-requires : goal.far_differences-a-requires
far_differences-a-requires c =
    let g = c.args in
    subst (λ (j : ℕ). FarEntryArgs g.s g.state_table.now (g.v - 1) g.v j g.inner.now g.row 1)
    (sym c.inside-j.ensures.0) (far-right _ _ _ _ _ _ _ _ _ _ c.requires)

pub far_differences-b-requires : goal.far_differences-b-requires
far_differences-b-requires c =
    let g = c.args in
    subst (λ (j : ℕ). FarEntryArgs g.s g.state_table.now g.left g.v j g.inner.now g.col g.step)
    (sym c.inside-j.ensures.0) (far-left _ _ _ _ _ _ _ _ _ _ c.requires)

pub returns : goal.returns
returns c =
    let g = c.args in
    let j = c.inside-j in
    let a = c.far_differences-a in
    let b = c.far_differences-b in
    or-test a.result b.result
    ∙ rows-far g.node_table.now g.inner.now g.s g.n g.state_table.now g.v g.left g.row
    g.col g.step c.if-node_table-right.false j.result j.ensures.0 (eqb a.result 0)
    (eqb b.result 0) a.ensures b.ensures
