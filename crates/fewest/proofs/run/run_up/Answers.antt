-- Before the first node nothing is written; one node more.
use Rattle.std.proofs.Common.{◌+◌, ◌∙◌, ◌≡◌, ℕ, length, set, length-set, arith, subst, sym}
use Rattle.allowed.specs.inner.masks.Up.{UpWritten}
use Rattle.allowed.proofs.masks.UpLoop.{up_next, node-args}
use Rattle.fewest.proofs.run.run_up.Goals as goal

pub node_cell-x-requires : goal.node_cell-x-requires
node_cell-x-requires c =
    let g = c.args in
    let l = c.loop-v in
    node-args g.kinds.now g.labels.now g.leaves.now g.inner.now g.s g.k c.requires.0 l.v g.cells.now l.cells
    c.loop-v-test.true l.invariant.1 (omega (arith, c.requires.1, l.invariant.0))

pub loop-v-preserved : goal.loop-v-preserved
loop-v-preserved c =
    let g = c.args in
    let l = c.loop-v in (
      length-set l.cells l.v c.node_cell-x.result ∙ l.invariant.0,
      subst (λ (x : ℕ). UpWritten g.kinds.now g.labels.now g.leaves.now g.inner.now g.s g.k (l.v + 1)
          g.cells.now (set l.cells l.v x)) (sym c.node_cell-x.ensures)
          (up_next g.kinds.now g.labels.now g.leaves.now g.inner.now g.s g.k c.requires.0 l.v g.cells.now
          l.cells c.loop-v-test.true l.invariant.1 (omega (arith, c.requires.1, l.invariant.0))),
    )

pub returns : goal.returns
returns c =
    let g = c.args in
    let l = c.loop-v in
    let e : l.v ≡ length g.kinds.now = omega arith in
    subst (λ (i : ℕ). UpWritten g.kinds.now g.labels.now g.leaves.now g.inner.now g.s g.k i g.cells.now l.cells) e l.invariant.1
