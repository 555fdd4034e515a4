-- Each entry joins the comparison by every-other or every-same.
use Rattle.std.proofs.Common.{ℕ, refl, ◌∙◌}
use Rattle.tables.specs.StateCells.{map_cell}
use Rattle.tables.specs.inner.Compare.{every}
use Rattle.tables.proofs.CompareLaws.{every-same, every-other}
use Rattle.branches.specs.inner.Maps.{step_cell}
use Rattle.branches.proofs.check_maps.step_row_is.Goals as goal
use Rattle.branches.proofs.check_maps.step_row_is.Goals.{then-x-next, else-x-next}

pub loop-q-init : goal.loop-q-init
unfolding every
loop-q-init c = refl

pub loop-q-preserved : goal.loop-q-preserved
loop-q-preserved c =
    let l = c.loop-q in
    let g = c.args in
    let f : ℕ → ℕ = step_cell g.s g.state_table.now g.p g.j g.steps.now g.k g.a in
    elim c.if-x-next.branch [
      | then-x-next w ↦ w.same-is ∙ every-other l.q (map_cell g.s g.state_table.now g.v) f w.if-x-next.true
      | else-x-next w ↦ w.same-is ∙ every-same l.q (map_cell g.s g.state_table.now g.v) f l.same l.invariant w.if-x-next.false
    ]
