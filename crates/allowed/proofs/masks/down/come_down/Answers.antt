-- One node more has had its turn; at the end all have.
use Rattle.std.proofs.Common.{◌≡◌, ℕ, ◌+◌, ◌-◌, sym, arith}
use mathlib.Core.Path.{subst}
use Rattle.allowed.specs.inner.masks.Down.{DownWritten}
use Rattle.allowed.proofs.masks.DownLoop.{down-next, node-args}
use Rattle.allowed.proofs.masks.down.come_down.Goals as goal

pub node_down-requires : goal.node_down-requires
node_down-requires c =
    let g = c.args in
    let w = c.requires in
    let l = c.loop-v in
    let e : l.v ≡ l.v - 1 + 1 = omega arith in
    node-args g.kinds.now g.labels.now g.leaves.now g.inner.now g.s g.k w.runs (l.v - 1) l.cells (omega arith)
    (omega (arith, l.auto.cells, w.room)) w.marks w.first
    (subst (λ (i : ℕ). DownWritten g.kinds.now g.labels.now g.leaves.now g.inner.now w.marks g.s g.k i w.first l.cells) e
    (l.invariant w.marks w.first w.ready))

pub loop-v-preserved : goal.loop-v-preserved
loop-v-preserved c marks first D =
    let g = c.args in
    let w = c.requires in
    let l = c.loop-v in
    let e : l.v ≡ l.v - 1 + 1 = omega arith in
    subst (DownWritten g.kinds.now g.labels.now g.leaves.now g.inner.now marks g.s g.k (l.v - 1) first) (sym c.node_down.ensures)
    (down-next g.kinds.now g.labels.now g.leaves.now g.inner.now g.s g.k w.runs (l.v - 1) l.cells (omega arith)
    (omega (arith, l.auto.cells, w.room)) marks first
    (subst (λ (i : ℕ). DownWritten g.kinds.now g.labels.now g.leaves.now g.inner.now marks g.s g.k i first l.cells) e
    (l.invariant marks first D)))

pub returns : goal.returns
returns c marks first D =
    let g = c.args in
    let l = c.loop-v in
    let z : l.v ≡ 0 = omega arith in
    subst (λ (i : ℕ). DownWritten g.kinds.now g.labels.now g.leaves.now g.inner.now marks g.s g.k i first l.cells) z
    (l.invariant marks first D)
