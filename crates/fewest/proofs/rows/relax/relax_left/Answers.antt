-- Before the first state the row is as it was; one state more.
use Rattle.std.proofs.Common.{get_or}
use Rattle.state_sets.specs.StateSets.{member}
use Rattle.fewest.specs.inner.Rows.{right_cost}
use Rattle.fewest.proofs.rows.RowLaws.{step_start, step-next}
use Rattle.fewest.proofs.rows.relax.relax_left.Goals as goal

pub loop-p-init : goal.loop-p-init
loop-p-init c =
    let g = c.args in
    step_start g.s (λ p j. right_cost g.inner.now g.s g.k p g.a (member g.labels) (get_or g.left.now p 0) g.right.now j)
    g.row.now c.requires.1

pub loop-p-preserved : goal.loop-p-preserved
loop-p-preserved c =
    let g = c.args in
    let l = c.loop-p in
    step-next g.s (λ p j. right_cost g.inner.now g.s g.k p g.a (member g.labels) (get_or g.left.now p 0) g.right.now j)
    l.p g.row.now l.row c.relax_right.new.row l.invariant c.relax_right.ensures
