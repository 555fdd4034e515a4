-- `next_move` meets its contract, by the way each test went.
use Rattle.std.proofs.Common.{sym, ◌∙◌}
use Rattle.tables.specs.node_tables.Cells.{cell_forest}
use Rattle.tables.proofs.node_tables.MoveCases.{outside, by_jump, no_jump, to-parent, no-parent}
use Rattle.tables.proofs.node_tables.moves.next_move.Goals as goal

pub returns-then-j-n : goal.returns-then-j-n
returns-then-j-n c =
    outside (cell_forest c.args.n c.args.node_table.now) c.args.v c.args.to c.jump_at-j.result
    c.jump_at-j.ensures c.if-j-n.true

pub returns-then-rises_to : goal.returns-then-rises_to
returns-then-rises_to c =
    by_jump (cell_forest c.args.n c.args.node_table.now) c.args.v c.args.to c.jump_at-j.result
    c.jump_at-j.ensures c.if-j-n.false c.depth_at.result c.depth_at.ensures
    c.if-to-depth_at.true
    (sym c.rises_to.ensures ∙ c.if-rises_to.true)

pub returns-then-to-depth_at : goal.returns-then-to-depth_at
returns-then-to-depth_at c =
    no_jump (cell_forest c.args.n c.args.node_table.now) c.args.v c.args.to c.jump_at-j.result
    c.jump_at-j.ensures c.if-j-n.false c.depth_at.result c.depth_at.ensures
    c.if-to-depth_at.true
    (sym c.rises_to.ensures ∙ c.if-rises_to.false)

pub returns-then-rises_to-2 : goal.returns-then-rises_to-2
returns-then-rises_to-2 c =
    to-parent (cell_forest c.args.n c.args.node_table.now) c.args.v c.args.to c.jump_at-j.result
    c.jump_at-j.ensures c.if-j-n.false c.depth_at.result c.depth_at.ensures c.if-to-depth_at.false
    c.parent_at-p.result c.parent_at-p.ensures (sym c.rises_to-2.ensures ∙ c.if-rises_to-2.true)

pub returns : goal.returns
returns c =
    no-parent (cell_forest c.args.n c.args.node_table.now) c.args.v c.args.to c.jump_at-j.result
    c.jump_at-j.ensures c.if-j-n.false c.depth_at.result c.depth_at.ensures c.if-to-depth_at.false
    c.parent_at-p.result c.parent_at-p.ensures (sym c.rises_to-2.ensures ∙ c.if-rises_to-2.false)
