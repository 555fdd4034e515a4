-- `step_on` meets its contract, by the move that `next_move` returns.
use Rattle.std.proofs.Common.{refl}
use Rattle.tables.specs.node_tables.Cells.{cell_forest}
use Rattle.tables.proofs.node_tables.MoveAnswerLaws.{answer-inside}
use Rattle.tables.specs.inner.PathViews.{path_view}
use Rattle.tables.proofs.StepLaws.{step-jump, step-parent, step-stuck}
use Rattle.tables.proofs.climb.step_on.Goals as goal

pub parent_on-requires : goal.parent_on-requires
parent_on-requires c =
    let g = c.args in
    record {
      path = c.requires.path;
      at = c.requires.at;
      up = answer-inside (cell_forest g.n g.node_table.now) g.v g.to c.in-Parent.p c.in-Parent.ensures;
      state = c.requires.state;
    }

pub returns-in-Jump : goal.returns-in-Jump
returns-in-Jump c =
    let g = c.args in
    let X = path_view g.n g.s g.k g.labels.now g.inner.now g.node_table.now g.state_table.now in
    step-jump X g.v g.to g.q
    c.in-Jump.j _ c.in-Jump.ensures refl

pub returns-in-Parent : goal.returns-in-Parent
returns-in-Parent c =
    let g = c.args in
    let X = path_view g.n g.s g.k g.labels.now g.inner.now g.node_table.now g.state_table.now in
    step-parent X g.v g.to g.q
    c.in-Parent.p c.parent_on.result c.in-Parent.ensures c.parent_on.ensures

pub returns-in-Stuck : goal.returns-in-Stuck
returns-in-Stuck c =
    let g = c.args in
    let X = path_view g.n g.s g.k g.labels.now g.inner.now g.node_table.now g.state_table.now in
    step-stuck X g.v g.to g.q
    c.in-Stuck.ensures
