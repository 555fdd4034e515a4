-- `parent_on` meets its contract, by the way each test went.
use Rattle.std.proofs.Common.{le_refl, sym, ◌∙◌}
use Rattle.tables.specs.inner.PathViews.{path_view}
use Rattle.tables.proofs.LookupLaws.{below-no}
use Rattle.tables.proofs.StepLaws.{parent-alone, parent-lost, parent-right, parent-left}
use Rattle.tables.proofs.climb.parent_on.Goals as goal

pub returns-then-n-u : goal.returns-then-n-u
returns-then-n-u c =
    let g = c.args in
    let X = path_view g.n g.s g.k g.labels.now g.inner.now g.node_table.now g.state_table.now in
    below-no g.s g.s (le_refl _)
    ∙ sym (parent-alone X g.v g.p g.q c.sibling_on-u.result c.sibling_on-u.ensures
    c.if-n-u.true)

pub returns-then-s-x : goal.returns-then-s-x
returns-then-s-x c =
    let g = c.args in
    let X = path_view g.n g.s g.k g.labels.now g.inner.now g.node_table.now g.state_table.now in
    below-no g.s g.s (le_refl _)
    ∙ sym (parent-lost X g.v g.p g.q c.sibling_on-u.result c.sibling_on-u.ensures
    c.if-n-u.false c.run_on-x.result c.run_on-x.ensures c.if-s-x.true)

pub returns-then-v-p : goal.returns-then-v-p
returns-then-v-p c =
    let g = c.args in
    let X = path_view g.n g.s g.k g.labels.now g.inner.now g.node_table.now g.state_table.now in
    c.rule_on.ensures
    ∙ sym (parent-right X g.v g.p g.q c.sibling_on-u.result c.sibling_on-u.ensures
    c.if-n-u.false c.run_on-x.result c.run_on-x.ensures c.if-s-x.false
    c.if-v-p.true)

pub returns : goal.returns
returns c =
    let g = c.args in
    let X = path_view g.n g.s g.k g.labels.now g.inner.now g.node_table.now g.state_table.now in
    c.rule_on-2.ensures
    ∙ sym (parent-left X g.v g.p g.q c.sibling_on-u.result c.sibling_on-u.ensures
    c.if-n-u.false c.run_on-x.result c.run_on-x.ensures c.if-s-x.false
    c.if-v-p.false)
