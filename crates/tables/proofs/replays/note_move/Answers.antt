use Rattle.tables.specs.node_tables.Cells.{cell_forest}
use Rattle.tables.proofs.ReplayLaws.{note-jump, note-parent, note-stuck}
use Rattle.tables.proofs.replays.note_move.Goals as goal

pub returns-in-Jump : goal.returns-in-Jump
returns-in-Jump c =
    let g = c.args in
    note-jump (cell_forest g.n g.node_table.now) g.v g.to c.in-Jump.j c.in-Jump.ensures

pub returns-in-Parent : goal.returns-in-Parent
returns-in-Parent c =
    let g = c.args in
    note-parent (cell_forest g.n g.node_table.now) g.v g.to c.in-Parent.p c.in-Parent.ensures

pub returns-in-Stuck : goal.returns-in-Stuck
returns-in-Stuck c =
    let g = c.args in
    note-stuck (cell_forest g.n g.node_table.now) g.v g.to c.in-Stuck.ensures
