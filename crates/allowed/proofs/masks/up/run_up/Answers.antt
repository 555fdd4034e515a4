-- One node more has its size and state; at the end all have.
use Rattle.std.proofs.Common.{◌≡◌, ℕ, ◌+◌, length, sym, arith}
use mathlib.Core.Path.{subst}
use lib.ListN.{set}
use Rattle.allowed.specs.inner.masks.Up.{UpWritten}
use Rattle.allowed.proofs.masks.UpLoop.{up_next, node-args}
use Rattle.allowed.proofs.masks.up.run_up.Goals as goal

pub node_cell-requires : goal.node_cell-requires
node_cell-requires c =
    let g = c.args in
    let l = c.loop-v in
    node-args g.kinds.now g.labels.now g.leaves.now g.inner.now g.s g.k c.requires.0 l.v g.cells.now l.cells
    c.loop-v-test.true l.invariant (omega (arith, c.requires.1, l.auto.cells))

pub loop-v-preserved : goal.loop-v-preserved
loop-v-preserved c =
    let g = c.args in
    let l = c.loop-v in
    subst (λ (x : ℕ). UpWritten g.kinds.now g.labels.now g.leaves.now g.inner.now g.s g.k (l.v + 1) g.cells.now (set l.cells l.v x))
    (sym c.node_cell.ensures)
    (up_next g.kinds.now g.labels.now g.leaves.now g.inner.now g.s g.k c.requires.0 l.v g.cells.now l.cells c.loop-v-test.true
    l.invariant (omega (arith, c.requires.1, l.auto.cells)))

pub returns : goal.returns
returns c =
    let g = c.args in
    let l = c.loop-v in
    let e : l.v ≡ length g.kinds.now = omega arith in
    subst (λ (i : ℕ). UpWritten g.kinds.now g.labels.now g.leaves.now g.inner.now g.s g.k i g.cells.now l.cells) e l.invariant
