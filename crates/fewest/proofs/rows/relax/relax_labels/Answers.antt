-- Before the first label the row is as it was; one label more.
use Rattle.state_sets.specs.StateSets.{member}
use Rattle.fewest.proofs.rows.RowLaws.{relax-start, relax-turn}
use Rattle.fewest.proofs.rows.relax.relax_labels.Goals as goal

pub loop-b-init : goal.loop-b-init
loop-b-init c =
    let g = c.args in
    relax-start g.inner.now g.s g.k g.p g.q g.a g.base (member g.labels) c.requires.0 g.row.now c.requires.1

pub loop-b-preserved : goal.loop-b-preserved
loop-b-preserved c =
    let g = c.args in
    let l = c.loop-b in
    relax-turn g.inner.now g.s g.k g.p g.q g.a g.base (member g.labels) c.requires.0 l.b g.row.now l.row c.rule-to.result
    c.change_cost-c.result c.min.result c.requires.1.wide l.invariant c.rule-to.ensures c.change_cost-c.ensures.0
    c.min.ensures
