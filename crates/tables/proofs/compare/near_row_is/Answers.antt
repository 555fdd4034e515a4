-- The flag compares one entry more at each iteration.
use Rattle.std.proofs.Common.{refl, ◌∙◌, ℕ}
use Rattle.tables.specs.StateCells.{map_cell}
use Rattle.tables.specs.inner.Compare.{every, near_entry}
use Rattle.tables.proofs.CompareLaws.{every-same, every-other}
use Rattle.tables.proofs.compare.near_row_is.Goals.{then-x-y, else-x-y}
use Rattle.tables.proofs.compare.near_row_is.Goals as goal

pub loop-q-init : goal.loop-q-init
unfolding every
loop-q-init c = refl

pub loop-q-preserved : goal.loop-q-preserved
loop-q-preserved c =
    let g = c.args in
    let f : ℕ → ℕ = near_entry g.table.now g.base g.stride in
    elim c.if-x-y.branch [
      | then-x-y w ↦ w.same-is ∙ every-other c.loop-q.q (map_cell g.s g.state_table.now g.v) f w.if-x-y.true
      | else-x-y w ↦ w.same-is
          ∙ every-same c.loop-q.q (map_cell g.s g.state_table.now g.v) f c.loop-q.same c.loop-q.invariant w.if-x-y.false
    ]
