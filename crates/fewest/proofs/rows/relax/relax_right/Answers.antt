-- Before the first state the row is as it was; one state more.
use Rattle.std.proofs.Common.{◌+◌, get_or}
use Rattle.state_sets.specs.StateSets.{member}
use Rattle.fewest.specs.inner.Rows.{labels_cost}
use Rattle.fewest.proofs.rows.RowLaws.{step_start, step-next}
use Rattle.fewest.proofs.rows.relax.relax_right.Goals as goal

pub loop-q-init : goal.loop-q-init
loop-q-init c =
    let g = c.args in
    step_start g.s (λ q j. labels_cost g.inner.now g.s g.k g.p q g.a (member g.labels) (g.left + get_or g.right.now q 0) j)
    g.row.now c.requires.1

pub loop-q-preserved : goal.loop-q-preserved
loop-q-preserved c =
    let g = c.args in
    let l = c.loop-q in
    step-next g.s (λ q j. labels_cost g.inner.now g.s g.k g.p q g.a (member g.labels) (g.left + get_or g.right.now q 0) j)
    l.q g.row.now l.row c.relax_way.new.row l.invariant c.relax_way.ensures
