-- Before the first label the row is as it was; one label more.
use Rattle.state_sets.specs.StateSets.{member}
use Rattle.fewest.proofs.rows.RowLaws.{leaf-start, leaf-turn}
use Rattle.fewest.proofs.rows.leaves.relax_leaf.Goals as goal

pub loop-b-init : goal.loop-b-init
loop-b-init c =
    let g = c.args in
    leaf-start g.leaves.now g.s g.k g.a (member g.labels) c.requires.0 g.row.now c.requires.1

pub loop-b-preserved : goal.loop-b-preserved
loop-b-preserved c =
    let g = c.args in
    let l = c.loop-b in
    leaf-turn g.leaves.now g.s g.k g.a (member g.labels) c.requires.0 l.b g.row.now l.row c.change_cost-c.result
    c.min.result c.requires.1.wide l.invariant c.change_cost-c.ensures.0 c.min.ensures
