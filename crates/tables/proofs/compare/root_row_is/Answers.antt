-- The flag compares one entry more at each iteration.
use Rattle.std.proofs.Common.{refl, ◌∙◌}
use Rattle.tables.specs.StateCells.{map_cell}
use Rattle.tables.specs.inner.Compare.{every}
use Rattle.tables.proofs.CompareLaws.{every-same, every-other}
use Rattle.tables.proofs.compare.root_row_is.Goals.{then-x-q, else-x-q}
use Rattle.tables.proofs.compare.root_row_is.Goals as goal

pub loop-q-init : goal.loop-q-init
unfolding every
loop-q-init c = refl

pub loop-q-preserved : goal.loop-q-preserved
loop-q-preserved c =
    let g = c.args in
    elim c.if-x-q.branch [
      | then-x-q w ↦ w.same-is ∙ every-other c.loop-q.q (map_cell g.s g.state_table.now g.v) (λ x. x) w.if-x-q.true
      | else-x-q w ↦ w.same-is
          ∙ every-same c.loop-q.q (map_cell g.s g.state_table.now g.v) (λ x. x) c.loop-q.same c.loop-q.invariant
          w.if-x-q.false
    ]
