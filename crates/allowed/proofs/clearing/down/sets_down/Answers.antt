-- One node more has had its iteration; at the end all have.
use Rattle.std.proofs.Common.{◌≡◌, ℕ, ◌+◌, ◌-◌, sym, arith}
use mathlib.Core.Path.{subst}
use Rattle.allowed.specs.inner.clearing.Down.{DownWritten, node_next}
use Rattle.allowed.proofs.clearing.DownLoop.{down-next, node-args, down-end}
use Rattle.allowed.proofs.clearing.down.sets_down.Goals as goal

pub node_down-set-requires : goal.node_down-set-requires
node_down-set-requires c =
    let g = c.args in
    let w = c.requires in
    let l = c.loop-v in
    let e : l.v ≡ l.v - 1 + 1 = omega arith in
    node-args g.kinds.now g.labels.now w.leaves g.inner.now g.s g.k w.runs (l.v - 1) l.set l.cells (omega arith)
    (omega (arith, l.auto.cells, w.room)) w.marks w.first
    (subst (λ (i : ℕ). DownWritten g.kinds.now g.labels.now w.leaves g.inner.now w.marks g.s g.k i l.set w.first l.cells) e
    (l.invariant w.leaves w.marks w.first w.runs w.ready))

pub loop-v-preserved : goal.loop-v-preserved
loop-v-preserved c leaves marks first G D =
    let g = c.args in
    let l = c.loop-v in
    let e : l.v ≡ l.v - 1 + 1 = omega arith in
    subst (λ (n : ℕ). DownWritten g.kinds.now g.labels.now leaves g.inner.now marks g.s g.k (l.v - 1) n first c.node_down-set.new.cells)
    (sym c.node_down-set.ensures.1)
    (subst (DownWritten g.kinds.now g.labels.now leaves g.inner.now marks g.s g.k (l.v - 1)
    (node_next g.kinds.now g.labels.now g.inner.now g.s g.k l.cells (l.v - 1) l.set) first) (sym c.node_down-set.ensures.0)
    (down-next g.kinds.now g.labels.now leaves g.inner.now g.s g.k G (l.v - 1) l.set l.cells (omega arith)
    (omega (arith, l.auto.cells, c.requires.room)) marks first
    (subst (λ (i : ℕ). DownWritten g.kinds.now g.labels.now leaves g.inner.now marks g.s g.k i l.set first l.cells) e
    (l.invariant leaves marks first G D))))

pub returns : goal.returns
returns c leaves marks first G D =
    let g = c.args in
    let l = c.loop-v in
    let z : l.v ≡ 0 = omega arith in
    down-end g.kinds.now g.labels.now leaves g.inner.now marks g.s g.k l.set first l.cells
    (subst (λ (i : ℕ). DownWritten g.kinds.now g.labels.now leaves g.inner.now marks g.s g.k i l.set first l.cells) z
    (l.invariant leaves marks first G D))
